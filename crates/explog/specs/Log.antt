-- y and B of document 01, "Logarithm and power": powers/specs/Log.antt. Assumes nothing.
pub use Rattle.powers.specs.Log.{squared, halved}
unfoldable pub use Rattle.powers.specs.Log.{y_of, b_of}
