-- "floor of the square root" (document 01, T_k): powers/specs/Root.antt. Assumes nothing.
unfoldable pub use Rattle.powers.specs.Root.{root_from, root}
