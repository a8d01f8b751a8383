-- T and P of document 01, "Logarithm and power": powers/specs/Exp.antt. Assumes nothing.
pub use Rattle.powers.specs.Exp.{step_e}
unfoldable pub use Rattle.powers.specs.Exp.{t_of, p_of}
