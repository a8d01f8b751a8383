-- WHATEVER A READ OF A SCALE REFUSES WITH IS IN THE HEADER'S LIST. Assumes nothing.
use mathlib.Core.Path.{◌≡◌, refl}
use mathlib.Core.List.{List, [], ◌∷◌}
use mathlib.Core.Logic.{inl, inr}
use Prim.Native.Nat.{ℕ, zero, suc, ◌≤◌}
use native.Mathlib.Omega.{arith}
use lib.ListN.{length}
use Rattle.base.specs.Said.{refuses}
use Rattle.listing.specs.Refusals.{OneOf}
use Rattle.listing.proofs.Details.{each_one}
use Rattle.listing.proofs.Refusals.{DrawnAt, drawn_at}
use Rattle.scl.specs.declared.Item.{Item}
use Rattle.text.specs.Reading.{strict}
use Rattle.scl_read.specs.ItemText.{NoItem}
use Rattle.scl_read.specs.Language.{Required, ContentLine, Wrong, scale, Values, WrongEnd, FaultText}
use Rattle.scl_read.specs.Reader.{read_of}
use Rattle.scl_read.specs.Refusals.{MayRefuse}
use Rattle.scl_read.proofs.Language.{refuses_fault}

-- ---- THE NUMBERS OF A LINE, and those after the last
abbrev Line : ℕ → Type 0
Line = OneOf (1 ∷ 3 ∷ 4 ∷ 5 ∷ 6 ∷ 9 ∷ 10 ∷ 12 ∷ [])

abbrev Last : ℕ → Type 0
Last = OneOf (13 ∷ 14 ∷ 18 ∷ [])

full : Line 12
full = inr (inr (inr (inr (inr (inr (inr (inl refl)))))))

wrong_line : (f : Required) (w : ContentLine) (n : ℕ) → Wrong f w n → Line n
wrong_line Required.description w n e = absurd e
wrong_line Required.count w n e = inr (inl e.0)

bad_line : (t : List ℕ) (n : ℕ) → NoItem t n → Line n
bad_line t n (NoItem.no_cents c e f) = inr (inr (inl e))
bad_line t n (NoItem.unsupported c e u) = inr (inr (inr (inr (inr (inl e)))))
bad_line t n (NoItem.far c e v d u) = inr (inr (inr (inr (inr (inr (inl e))))))
bad_line t n (NoItem.no_numer a b s e) = inr (inr (inr (inl e.0)))
bad_line t n (NoItem.no_denom a b s p u e) = inr (inr (inr (inr (inl e.0))))
bad_line t n (NoItem.zero_part a b s p q u v z e) = inr (inr (inr (inr (inr (inr (inl e))))))
bad_line t n (NoItem.no_whole f g e) = inr (inl e.0)
bad_line t n (NoItem.zero f g u e) = inr (inr (inr (inr (inr (inr (inl e))))))

wrong_end : (vs : Values) (is : List Item) (n : ℕ) → WrongEnd vs is n → Last n
wrong_end vs is n (inl e) = inl e.0
wrong_end vs is n (inr (inl e)) = inr (inl e.0)
wrong_end vs is n (inr (inr e)) = inr (inr (inl e.0))

-- ---- THE THEOREM
which : (d : ℕ) → 1 ≤ d → d ≤ 2 → OneOf (1 ∷ 2 ∷ []) d
which zero a b = absurd (omega arith)
which (suc zero) a b = inl refl
which (suc (suc zero)) a b = inr (inl refl)
which (suc (suc (suc k))) a b = absurd (omega (arith, b))

pub fault_listed : {s : List ℕ} {n d room : ℕ} → FaultText s n d room → MayRefuse s room n d
fault_listed (FaultText.no_place e p) = MayRefuse.no_place e p refl
fault_listed {s} {n} {d} (FaultText.at_lines places says t f) =
    go (drawn_at scale WrongEnd Line Last (inl refl) full (λ f s. wrong_line f) (λ w k. bad_line w.token k) wrong_end f)
  where
    go : DrawnAt scale WrongEnd Line Last (length says) n d → MayRefuse s (suc places) n d
    go (DrawnAt.at_line l a b) = MayRefuse.at_line l t.parts t.lines a (omega (arith, b, each_one strict t.parts says t.each))
    go (DrawnAt.missing e a b) = MayRefuse.missing e (which d a b)
    go (DrawnAt.at_end e p) = MayRefuse.at_end e p

pub read_listed : (room : ℕ) (s : List ℕ) (n d : ℕ) → read_of room s ≡ refuses n d → MayRefuse s room n d
read_listed room s n d e = fault_listed ((refuses_fault room s n d).0 e)
