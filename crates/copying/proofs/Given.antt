-- An export that is given: how many bytes it takes, and where they stand. Assumes nothing.
use mathlib.Core.Path.{◌≡◌}
use mathlib.Core.List.{List}
use Prim.Native.Nat.{ℕ}
use native.Mathlib.Omega.{arith}
use lib.ListN.{length}
use Rattle.base.specs.Said.{Said, gives, refuses}
use Rattle.base.specs.Tables.{over, after}
use Rattle.writing.specs.Fitted.{text_length}

module _ {s : Said (List ℕ)} {t : List ℕ} (g : s ≡ gives t) where
  pub given_size : {n : ℕ} → gives n ≡ text_length s → n ≡ length t
  given_size {n} e = let f : gives n ≡ gives (length t) = rw g at e in cc

  pub given_bytes : (l : List ℕ) {m : List ℕ} → m ≡ after s (λ x. x) l → m ≡ over l t
  given_bytes l e = rw g at e

  pub given_always : {n d : ℕ} → refuses n d ≡ text_length s → ⊥
  given_always {n} {d} e =
      let f : refuses n d ≡ gives (length t) = rw g at e in
      let z : ◌≡◌ {A = ℕ} 0 1 = cc in
      omega arith
