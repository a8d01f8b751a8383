-- The laws of what a token is read as: what a call answered, and what a match made of it. Assumes nothing.
use mathlib.Core.Path.{◌≡◌}
use mathlib.Core.Bool.{false}
use mathlib.Core.List.{List}
use Prim.Native.Nat.{ℕ, ◌+◌, ◌^◌, ◌≤◌, ◌<◌}
use lib.ListN.{length, take, drop}
use borrow.Author.Tests.{lt-ltb, le-ltb}
use Rattle.decimals.specs.DecimalScan.{read_decimal}
use Rattle.integers.specs.Integer.{read_int}
use Rattle.scl_read.specs.Tokens.{position_of, cents_in, fraction_in, whole_in, item_in}

-- A TOKEN goes by its first dot, and then by its first slash
module _ (t : List ℕ) {dot : ℕ} (e : dot ≡ position_of 46 t) where
  pub takes_cents : dot < length t → cents_in (read_decimal t) ≡ item_in t
  unfolding item_in
  takes_cents h = rw (← e, lt-ltb dot (length t) h)

  module _ (h : length t ≤ dot) {slash : ℕ} (f : slash ≡ position_of 47 t) where
    pub takes_fraction : slash < length t → fraction_in (read_int false (2 ^ 32) (take slash t)) (read_int false (2 ^ 32) (drop (slash + 1) t)) ≡ item_in t
    unfolding item_in
    takes_fraction g = rw (← e, le-ltb dot (length t) h, ← f, lt-ltb slash (length t) g)

    pub takes_whole : length t ≤ slash → whole_in (read_int false (2 ^ 32) t) ≡ item_in t
    unfolding item_in
    takes_whole g = rw (← e, le-ltb dot (length t) h, ← f, le-ltb slash (length t) g)
