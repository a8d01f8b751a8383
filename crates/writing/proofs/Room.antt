-- What is answered by the room for a text: 12, or the text from the first byte on. Assumes nothing.
use mathlib.Core.Path.{◌≡◌, refl, sym, ap, ◌∙◌}
use mathlib.Core.Bool.{Bool, true, false}
use mathlib.Core.List.{List, ◌++◌}
use mathlib.Core.Logic.{◌↔◌}
use Prim.Native.Nat.{ℕ, ◌≤◌, ◌<◌}
use native.Mathlib.Nat.{zero-add}
use native.Mathlib.Omega.{arith}
use lib.Dec.{leb}
use lib.ListN.{length, drop}
use lib.Seq.{sets, sets-eq}
use borrow.Author.Tests.{le-leb, lt-leb, leb-true, leb-false}
use Rattle.base.specs.Numbers.{no_room}
use Rattle.base.specs.Said.{Said, gives, refuses, pick, and_then, Numbered}
use Rattle.base.specs.Tables.{over, after}
use Rattle.base.proofs.Said.{no_value, no_refusal, same_value, same_refuses, numbered_pick}
use Rattle.writing.specs.Fitted.{fitted, text_length}

-- a text written from the first byte on
pub sets_over : (l t : List ℕ) → length t ≤ length l → sets l 0 t ≡ over l t
sets_over l t h = sets-eq t l 0 (omega (arith, h)) ∙ ap (λ (n : ℕ). t ++ drop n l) (zero-add (length t))

-- a text that is longer than the lent bytes is refused, and the bytes stay
pub too_long : (l t : List ℕ) → length l < length t → (refuses no_room 0 ≡ text_length (fitted (length l) t)) × (l ≡ after (fitted (length l) t) (λ x. x) l)
unfolding fitted
too_long l t h = let z = lt-leb (length t) (length l) h in (rw z, rw z)

-- any other is written from the first byte on
pub long_enough : (l m : List ℕ) (r : ℕ) (t : List ℕ) → length t ≤ length l → r ≡ length t → m ≡ sets l 0 t → (gives r ≡ text_length (fitted (length l) t)) × (m ≡ after (fitted (length l) t) (λ x. x) l)
unfolding fitted
long_enough l m r t h e f =
    let z = le-leb (length t) (length l) h in
    (rw z (ap gives e), rw z (f ∙ sets-eq t l 0 (omega (arith, h)) ∙ ap (λ (n : ℕ). t ++ drop n l) (zero-add (length t))))

-- a text that is given has room
abbrev pub Fitting : ℕ → Said (List ℕ) → Type 0
Fitting room (gives t) = length t ≤ room
Fitting room (refuses number detail) = Unit {0}

pub pick_fitting : (room : ℕ) (b : Bool) (x y : Said (List ℕ)) → Fitting room x → Fitting room y → Fitting room (pick b x y)
pick_fitting room true x y f g = f
pick_fitting room false x y f g = g

pub then_fitting : {A : Type 0} (room : ℕ) (s : Said A) (f : A → Said (List ℕ)) → ((a : A) → Fitting room (f a)) → Fitting room (and_then s f)
then_fitting room (gives a) f h = h a
then_fitting room (refuses number detail) f h = tt

pub fitted_fitting : (room : ℕ) (t : List ℕ) → Fitting room (fitted room t)
unfolding fitted
fitted_fitting room t = go (leb (length t) room) refl
  where
    go : (b : Bool) → leb (length t) room ≡ b → Fitting room (pick b (gives t) (refuses no_room 0))
    go true e = leb-true (length t) room e
    go false e = tt

-- "12 exactly when the text is longer than the lent bytes"
module _ (room : ℕ) (t : List ℕ) where
  pub fitted_full : (fitted room t ≡ refuses no_room 0) ↔ (room < length t)
  unfolding fitted
  fitted_full = (short (leb (length t) room) refl, λ h. rw (lt-leb (length t) room h))
    where
      short : (b : Bool) → leb (length t) room ≡ b → pick b (gives t) (refuses no_room 0) ≡ refuses no_room 0 → room < length t
      short true e q = no_refusal q
      short false e q = leb-false (length t) room e

  -- else the text is given
  pub fitted_gives : length t ≤ room → fitted room t ≡ gives t
  unfolding fitted
  fitted_gives h = rw (le-leb (length t) room h)

  -- and nothing else ever is
  pub fitted_given : {u : List ℕ} → fitted room t ≡ gives u → (u ≡ t) × (length t ≤ room)
  unfolding fitted
  fitted_given {u} = go (leb (length t) room) refl
    where
      go : (b : Bool) → leb (length t) room ≡ b → pick b (gives t) (refuses no_room 0) ≡ gives u → (u ≡ t) × (length t ≤ room)
      go true e q = (sym (same_value t u q), leb-true (length t) room e)
      go false e q = no_value q

  -- and no other number than 12 arises
  pub fitted_refuses : {n d : ℕ} → fitted room t ≡ refuses n d → n ≡ no_room
  unfolding fitted
  fitted_refuses {n} {d} = go (leb (length t) room)
    where
      go : (b : Bool) → pick b (gives t) (refuses no_room 0) ≡ refuses n d → n ≡ no_room
      go true q = no_refusal q
      go false q = sym (same_refuses q).0

  pub fitted_numbered : Numbered (fitted room t)
  unfolding fitted
  fitted_numbered = numbered_pick (leb (length t) room) (Numbered.value t) (Numbered.number (omega arith) (omega arith))
