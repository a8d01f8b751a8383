-- THE LANGUAGE OF SCALES IN 01'S WORDS, "the texts that draw none of 1 to 11, 13, 14 and 18": whatever the room, and in ample room,
-- where none draws 12. Assumes nothing.
use mathlib.Core.Path.{◌≡◌, refl, sym, ◌∙◌}
use mathlib.Core.List.{List}
use mathlib.Core.Logic.{◌⊎◌, ◌↔◌, inl, inr}
use Prim.Native.Nat.{ℕ, zero, suc, ◌+◌, ◌≤◌, ◌<◌}
use native.Mathlib.Omega.{arith}
use lib.ListN.{length}
use Rattle.base.specs.Numbers.{no_room}
use Rattle.base.specs.Said.{Said, gives, refuses}
use Rattle.base.proofs.Said.{no_value}
use Rattle.listing.specs.Drawn.{Drawn, Ample}
use Rattle.listing.proofs.Ample.{not_no_room, says_few, fault_drawn, fault_stays}
use Rattle.scl.specs.declared.Item.{Item}
use Rattle.scl_read.specs.ItemText.{NoItem}
use Rattle.sorting.specs.Entries.{Entry}
use Rattle.scl_read.specs.Language.{Required, ContentLine, scale, Values, Wrong, ScaleText, IsScale, WrongEnd, FaultText}
use Rattle.scl_read.specs.Reader.{given_in, scale_read, read_of, ReaderFinds}
use Rattle.scl_read.specs.declared.SclRead.{SclRead}
use Rattle.scl_read.proofs.Language.{accepts, accepted, refuses_fault}

-- ---- the numbers of a line, and of the end
module _ (n : ℕ) where
  wrong_drawn : (f : Required) (l : ContentLine) → Wrong f l n → Drawn n
  wrong_drawn Required.description l w = absurd w
  wrong_drawn Required.count l w = inl (omega (arith, w.0), omega (arith, w.0))

  bad_drawn : (t : List ℕ) → NoItem t n → Drawn n
  bad_drawn t (NoItem.no_cents h e f) = inl (omega (arith, e), omega (arith, e))
  bad_drawn t (NoItem.unsupported h e u) = inl (omega (arith, e), omega (arith, e))
  bad_drawn t (NoItem.far h e v x y) = inl (omega (arith, e), omega (arith, e))
  bad_drawn t (NoItem.no_numer a b p w) = inl (omega (arith, w.0), omega (arith, w.0))
  bad_drawn t (NoItem.no_denom a b p q x w) = inl (omega (arith, w.0), omega (arith, w.0))
  bad_drawn t (NoItem.zero_part a b p q r x y z e) = inl (omega (arith, e), omega (arith, e))
  bad_drawn t (NoItem.no_whole p q w) = inl (omega (arith, w.0), omega (arith, w.0))
  bad_drawn t (NoItem.zero p q x e) = inl (omega (arith, e), omega (arith, e))

  end_drawn : (vs : Values) (items : List Item) → WrongEnd vs items n → Drawn n
  end_drawn vs items (inl w) = inr (inl w.0)
  end_drawn vs items (inr (inl w)) = inr (inr (inl w.0))
  end_drawn vs items (inr (inr w)) = inr (inr (inr w.0))

-- ---- in ample room
drawn : (room : ℕ) (s : List ℕ) → Ample room s → (n d : ℕ) → FaultText s n d room → Drawn n
drawn zero s a n d f = absurd (omega arith)
drawn (suc places) s a n d (FaultText.at_lines _ says t f) =
    fault_drawn scale WrongEnd places says n d Drawn (λ low high. inl (low, omega (arith, high))) (omega (arith, says_few t, a)) (λ f s. wrong_drawn n f) (λ l w. bad_drawn n l.token w) (λ vs es b w. end_drawn n vs es w) f

module _ (room : ℕ) (s : List ℕ) (a : Ample room s) where
  -- a fault is one of 1 to 11, 13, 14 and 18
  pub ample_drawn : (n d : ℕ) → FaultText s n d room → Drawn n
  ample_drawn = drawn room s a

  -- so no text is refused by 12
  pub never_no_room : (d : ℕ) → read_of room s ≡ refuses no_room d → ⊥
  never_no_room d e = not_no_room no_room (ample_drawn no_room d ((refuses_fault room s no_room d).0 e)) refl

  fits : {d : List ℕ} {items : List Item} {list : List Entry} → ScaleText s d items list → length items < room
  fits t = omega (arith, t.not_large, a)

  -- a text is accepted exactly when it is in the language, with this one reading
  pub accepts_ample : (d : List ℕ) (items : List Item) (list : List Entry) →
      ((read_of room s ≡ gives (scale_read (length items) s)) × ReaderFinds s d items list) ↔ ScaleText s d items list
  accepts_ample d items list = (λ r. ((accepts room s d items list).0 r).0, λ t. (accepts room s d items list).1 (t, fits t))

  -- it is in the language, or has a fault of such a number
  pub in_or_out : IsScale s ⊎ ((n d : ℕ) × Drawn n × FaultText s n d room)
  in_or_out = by_said (read_of room s) refl
    where
      by_said : (r : Said SclRead) → read_of room s ≡ r → IsScale s ⊎ ((n d : ℕ) × Drawn n × FaultText s n d room)
      by_said (gives x) e = let t = accepted room s x e in inl (t.0, given_in s, t.1, t.2)
      by_said (refuses n d) e = let f = (refuses_fault room s n d).0 e in inr (n, d, ample_drawn n d f, f)

  no_fault : IsScale s → (n d : ℕ) → FaultText s n d room → ⊥
  no_fault (c, items, list, t) n d f = no_value (sym ((refuses_fault room s n d).1 f) ∙ ((accepts_ample c items list).1 t).0)

  -- THE LANGUAGE is the texts that draw no number at all, and a text outside it has a fault, one of those numbers
  pub language_ample : IsScale s ↔ ((n d : ℕ) → FaultText s n d room → ⊥)
  language_ample = (no_fault, back in_or_out)
    where
      back : IsScale s ⊎ ((n d : ℕ) × Drawn n × FaultText s n d room) → ((n d : ℕ) → FaultText s n d room → ⊥) → IsScale s
      back (inl m) h = m
      back (inr (n, d, w, f)) h = absurd (h n d f)

  pub outside_ample : (IsScale s → ⊥) ↔ ((n d : ℕ) × Drawn n × FaultText s n d room)
  outside_ample = (forth in_or_out, λ u m. no_fault m u.0 u.1 u.3)
    where
      forth : IsScale s ⊎ ((n d : ℕ) × Drawn n × FaultText s n d room) → (IsScale s → ⊥) → (n d : ℕ) × Drawn n × FaultText s n d room
      forth (inl m) h = absurd (h m)
      forth (inr u) h = u

-- ---- whatever the room
-- so much more is ample
abbrev most : List ℕ → ℕ → ℕ
most s room = room + (length s + 65536)

-- a fault stays where there is more room
stays : (room more : ℕ) → room ≤ more → (s : List ℕ) (n d : ℕ) → Drawn n → FaultText s n d room → FaultText s n d more
stays zero more h s n d w (FaultText.no_place e f) = absurd (not_no_room n w e)
stays (suc places) zero h s n d w f = absurd (omega arith)
stays (suc places) (suc more) h s n d w (FaultText.at_lines _ says t f) =
    FaultText.at_lines more says t (fault_stays scale WrongEnd places says n d WrongEnd more (omega arith) (not_no_room n w) (λ vs es x. x) f)

-- THE LANGUAGE, in 01's words: the texts that draw none of 1 to 11, 13, 14 and 18
pub language_draws : (s : List ℕ) → IsScale s ↔ ((room n d : ℕ) → Drawn n → FaultText s n d room → ⊥)
language_draws s = (forth, back)
  where
    forth : IsScale s → (room n d : ℕ) → Drawn n → FaultText s n d room → ⊥
    forth m room n d w f = (language_ample (most s room) s (omega arith)).0 m n d (stays room (most s room) (omega arith) s n d w f)

    back : ((room n d : ℕ) → Drawn n → FaultText s n d room → ⊥) → IsScale s
    back h =
        let a : Ample (most s 0) s = omega arith in
        (language_ample (most s 0) s a).1 (λ n d f. h (most s 0) n d (ample_drawn (most s 0) s a n d f) f)
