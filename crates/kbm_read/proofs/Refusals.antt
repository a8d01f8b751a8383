-- WHATEVER A READ OF A MAPPING REFUSES WITH IS IN THE HEADER'S LIST. Assumes nothing.
use Rattle.std.specs.Prelude.{ℤ}
use Rattle.std.specs.Prelude.{Option}
use mathlib.Core.Path.{◌≡◌, refl}
use mathlib.Core.List.{List, [], ◌∷◌}
use mathlib.Core.Logic.{inl, inr}
use Prim.Native.Nat.{ℕ, zero, suc, ◌≤◌}
use native.Mathlib.Omega.{arith}
use lib.ListN.{length}
use Rattle.base.specs.Said.{refuses}
use Rattle.listing.specs.Refusals.{OneOf}
use Rattle.listing.proofs.Details.{each_one}
use Rattle.listing.proofs.Refusals.{DrawnAt, drawn_at}
use Rattle.text.specs.Reading.{strict}
use Rattle.kbm_read.specs.Language.{Required, Seen, required, Wrong, NoEntry, mapping, Values, size_of, WrongEnd, FaultText}
use Rattle.kbm_read.specs.Reader.{read_of}
use Rattle.kbm_read.specs.Refusals.{MayRefuse}
use Rattle.kbm_read.proofs.Language.{refuses_fault}

-- ---- THE NUMBERS OF A LINE, and those after the last
abbrev Line : ℕ → Type 0
Line = OneOf (1 ∷ 3 ∷ 7 ∷ 8 ∷ 9 ∷ 10 ∷ 11 ∷ 12 ∷ 25 ∷ [])

abbrev Last : ℕ → Type 0
Last = OneOf (12 ∷ 13 ∷ 14 ∷ [])

full : Line 12
full = inr (inr (inr (inr (inr (inr (inr (inl refl)))))))

wrong_line : (f : Required) (key : Seen) (t : List ℕ) (n : ℕ) → Wrong f key t n → Line n
wrong_line Required.size key t n e = inr (inl e.0)
wrong_line Required.first key t n e = inr (inl e.0)
wrong_line Required.last key t n (inl e) = inr (inl e.0)
wrong_line Required.last key t n (inr (inl e)) = inr (inr (inr (inr (inr (inr (inl e.0))))))
wrong_line Required.last key t n (inr (inr e)) = inr (inr (inr (inr (inr (inr (inr (inr (inl e.0))))))))
wrong_line Required.middle key t n e = inr (inl e.0)
wrong_line Required.reference key t n e = inr (inl e.0)
wrong_line Required.pitch key t n (inl e) = inr (inr (inl e.0))
wrong_line Required.pitch key t n (inr (inl e)) = inr (inr (inr (inr (inl e.0))))
wrong_line Required.pitch key t n (inr (inr e)) = inr (inr (inr (inr (inr (inl e.0)))))
wrong_line Required.octave key t n e = inr (inl e.0)

bad_line : (t : List ℕ) (n : ℕ) → NoEntry t n → Line n
bad_line t n e = inr (inr (inr (inl e.0)))

wrong_end : (room top : ℕ) (es : List (Option ℤ)) (n : ℕ) → WrongEnd room top es n → Last n
wrong_end room top es n (inl e) = inl e.0
wrong_end room top es n (inr (inl e)) = inr (inl e.0)
wrong_end room top es n (inr (inr e)) = inr (inr (inl e.0))

-- ---- THE THEOREM
which : (d : ℕ) → 1 ≤ d → d ≤ 7 → OneOf (1 ∷ 2 ∷ 3 ∷ 4 ∷ 5 ∷ 6 ∷ 7 ∷ []) d
which zero a b = absurd (omega arith)
which (suc zero) a b = inl refl
which (suc (suc zero)) a b = inr (inl refl)
which (suc (suc (suc zero))) a b = inr (inr (inl refl))
which (suc (suc (suc (suc zero)))) a b = inr (inr (inr (inl refl)))
which (suc (suc (suc (suc (suc zero))))) a b = inr (inr (inr (inr (inl refl))))
which (suc (suc (suc (suc (suc (suc zero)))))) a b = inr (inr (inr (inr (inr (inl refl)))))
which (suc (suc (suc (suc (suc (suc (suc zero))))))) a b = inr (inr (inr (inr (inr (inr (inl refl))))))
which (suc (suc (suc (suc (suc (suc (suc (suc k)))))))) a b = absurd (omega (arith, b))

module _ {room : ℕ} {s : List ℕ} {n d : ℕ} (t : FaultText room s n d) where
  abbrev End : Values required → List (Option ℤ) → ℕ → Type 0
  End vs es k = WrongEnd room (size_of vs) es k

  pub fault_listed : MayRefuse s n d
  fault_listed =
      go (drawn_at mapping End Line Last (inl refl) full wrong_line bad_line (λ vs. wrong_end room (size_of vs)) t.fault)
    where
      go : DrawnAt mapping End Line Last (length t.says) n d → MayRefuse s n d
      go (DrawnAt.at_line l a b) =
          let same = each_one strict t.text.parts t.says t.text.each in
          MayRefuse.at_line l t.text.parts t.text.lines a (omega (arith, b, same))
      go (DrawnAt.missing e a b) = MayRefuse.missing e (which d a b)
      go (DrawnAt.at_end e p) = MayRefuse.at_end e p

pub read_listed : (room : ℕ) (s : List ℕ) (n d : ℕ) → read_of room s ≡ refuses n d → MayRefuse s n d
read_listed room s n d e = fault_listed ((refuses_fault room s n d).0 e)
