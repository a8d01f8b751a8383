-- The laws of a token's length along a slice, as the code meets them. Assumes nothing.
use mathlib.Core.Path.{◌≡◌, ap}
use mathlib.Core.List.{List, [], ◌∷◌}
use mathlib.Core.Bool.{Bool, true, false}
use Prim.Native.Nat.{ℕ, suc, ◌+◌, ◌≤◌, ◌<◌}
use native.Mathlib.Omega.{arith}
use lib.Dec.{eqb}
use lib.ListN.{length, get_or, drop, drop_of_length-le}
use borrow.Author.Tests.{ne_eqb}
use Rattle.base.specs.Said.{pick}
use Rattle.text.specs.ReadLine.{splits, token_length}
use Rattle.text.proofs.Cuts.{drop_next}

-- the token is i bytes long and the token from there
abbrev pub Along : List ℕ → ℕ → Type 0
Along s i = token_length s ≡ i + token_length (drop i s)

module _ (s : List ℕ) (i : ℕ) (v : Along s i) where
  module _ (h : i < length s) {r : Bool} (e : r ≡ splits (get_or s i 0)) where
    pub token_turn : r ≡ false → Along s (i + 1)
    unfolding token_length
    token_turn f =
        let x : token_length (drop i s) ≡ suc (token_length (drop (i + 1) s)) = rw (drop_next s i h, ← e, f) in
        omega (arith, v, x)

    pub token_stop : r ≡ true → i ≡ token_length s
    unfolding token_length
    token_stop f =
        let x : token_length (drop i s) ≡ 0 = rw (drop_next s i h, ← e, f) in
        omega (arith, v, x)

  pub token_all : length s ≤ i → i ≡ token_length s
  unfolding token_length
  token_all h = omega (arith, v, ap token_length (drop_of_length-le s h))

-- a token stays within what it is of
pub token_le : (s : List ℕ) → token_length s ≤ length s
unfolding token_length
token_le [] = omega arith
token_le (b ∷ s) = go (splits b) (token_le s)
  where
    go : (x : Bool) → token_length s ≤ length s → pick x 0 (suc (token_length s)) ≤ suc (length s)
    go true h = omega arith
    go false h = omega arith

-- WHERE A TOKEN ENDS, test by test: space, tab, LF, form feed, CR
module _ (b : ℕ) where
  pub at_space : b ≡ 32 → true ≡ splits b
  at_space e = rw e

  module _ (space : b ≡ 32 → ⊥) where
    pub at_tab : b ≡ 9 → true ≡ splits b
    at_tab e = rw e

    module _ (tab : b ≡ 9 → ⊥) where
      pub at_lf : b ≡ 10 → true ≡ splits b
      at_lf e = rw e

      module _ (lf : b ≡ 10 → ⊥) where
        pub at_ff : b ≡ 12 → true ≡ splits b
        at_ff e = rw e

        pub at_cr : (b ≡ 12 → ⊥) → eqb b 13 ≡ splits b
        at_cr ff = rw (ne_eqb b 32 space, ne_eqb b 9 tab, ne_eqb b 10 lf, ne_eqb b 12 ff)
