-- THE LANGUAGE OF MAPPINGS IN 01'S WORDS, "the texts that draw none of 1 to 11, 13, 14 and 18", and 25 of 02: whatever the room, and in
-- ample room, where none draws 12. Assumes nothing.
use Rattle.std.specs.Prelude.{ℤ}
use Rattle.std.specs.Prelude.{Option}
use mathlib.Core.Path.{◌≡◌, refl, sym, ◌∙◌, ap}
use mathlib.Core.List.{List}
use mathlib.Core.Logic.{◌⊎◌, ◌↔◌, inl, inr}
use Prim.Native.Nat.{ℕ, ◌+◌, ◌≤◌}
use native.Mathlib.Omega.{arith}
use lib.ListN.{length}
use Rattle.base.specs.Numbers.{no_room}
use Rattle.base.specs.Said.{Said, gives, refuses}
use Rattle.base.proofs.Said.{no_value}
use Rattle.kbm.specs.declared.Kbm.{Kbm}
use Rattle.listing.specs.Drawn.{Ample}
use Rattle.listing.proofs.Ample.{not_no_room, says_few, fault_drawn, fault_stays}
use Rattle.kbm_read.specs.Language.{Required, Seen, Wrong, NoEntry, mapping, size_of, MappingText, IsMapping, WrongEnd, FaultText}
use Rattle.kbm_read.specs.Drawn.{DrawnOr25}
use Rattle.kbm_read.specs.Reader.{read_of, entries_in}
use Rattle.kbm_read.proofs.Ends.{small_size}
use Rattle.kbm_read.proofs.Language.{accepted, in_language, accepts, refuses_fault}

-- ---- the numbers of a line, and of the end
module _ (n : ℕ) where
  early : (1 ≤ n) × (n ≤ 11) → DrawnOr25 n
  early w = inl (inl w)

  wrong_drawn : (f : Required) (key : Seen) (t : List ℕ) → Wrong f key t n → DrawnOr25 n
  wrong_drawn Required.size key t w = early (omega (arith, w.0), omega (arith, w.0))
  wrong_drawn Required.first key t w = early (omega (arith, w.0), omega (arith, w.0))
  wrong_drawn Required.last key t (inl w) = early (omega (arith, w.0), omega (arith, w.0))
  wrong_drawn Required.last key t (inr (inl w)) = early (omega (arith, w.0), omega (arith, w.0))
  wrong_drawn Required.last key t (inr (inr w)) = inr w.0
  wrong_drawn Required.middle key t w = early (omega (arith, w.0), omega (arith, w.0))
  wrong_drawn Required.reference key t w = early (omega (arith, w.0), omega (arith, w.0))
  wrong_drawn Required.pitch key t (inl w) = early (omega (arith, w.0), omega (arith, w.0))
  wrong_drawn Required.pitch key t (inr (inl w)) = early (omega (arith, w.0), omega (arith, w.0))
  wrong_drawn Required.pitch key t (inr (inr w)) = early (omega (arith, w.0), omega (arith, w.0))
  wrong_drawn Required.octave key t w = early (omega (arith, w.0), omega (arith, w.0))

  bad_drawn : (t : List ℕ) → NoEntry t n → DrawnOr25 n
  bad_drawn t w = early (omega (arith, w.0), omega (arith, w.0))

  end_drawn : (room top : ℕ) (es : List (Option ℤ)) → top ≤ room → WrongEnd room top es n → DrawnOr25 n
  end_drawn room top es h (inl w) = absurd (omega (arith, w.2))
  end_drawn room top es h (inr (inl w)) = inl (inr (inl w.0))
  end_drawn room top es h (inr (inr w)) = inl (inr (inr (inl w.0)))

  -- 12 is none of them
  other : DrawnOr25 n → n ≡ no_room → ⊥
  other (inl w) e = not_no_room n w e
  other (inr w) e = omega (arith, w)

  end_stays : (room more top : ℕ) (es : List (Option ℤ)) → (n ≡ no_room → ⊥) → WrongEnd room top es n → WrongEnd more top es n
  end_stays room more top es other (inl w) = absurd (other w.0)
  end_stays room more top es other (inr w) = inr w

-- ---- in ample room
module _ (room : ℕ) (s : List ℕ) (a : Ample room s) where
  -- a fault is one of 1 to 11, 13, 14, 18 and 25
  pub ample_drawn : (n d : ℕ) → FaultText room s n d → DrawnOr25 n
  ample_drawn n d t =
      fault_drawn mapping (λ vs es c. WrongEnd room (size_of vs) es c) room t.says n d DrawnOr25
      (λ low high. inl (inl (low, omega (arith, high)))) (omega (arith, says_few t.text, a)) (wrong_drawn n) (bad_drawn n)
      (λ vs es b w. end_drawn n room (size_of vs) es (omega (arith, small_size b, a)) w) t.fault

  -- so no text is refused by 12
  pub never_no_room : (d : ℕ) → read_of room s ≡ refuses no_room d → ⊥
  never_no_room d e = other no_room (ample_drawn no_room d ((refuses_fault room s no_room d).0 e)) refl

  fits : {x : Kbm} {es : List (Option ℤ)} → MappingText s x es → length es ≤ room
  fits t = omega (arith, ap length t.entries, t.not_large, a)

  -- a text is accepted exactly when it is in the language, with this one reading
  pub accepts_ample : (x : Kbm) (es : List (Option ℤ)) → ((read_of room s ≡ gives x) × (entries_in x.count s ≡ es)) ↔ MappingText s x es
  accepts_ample x es = (λ r. ((accepts room s x es).0 r).0, λ t. (accepts room s x es).1 (t, fits t))

  -- it is in the language, or has a fault of such a number
  pub in_or_out : IsMapping s ⊎ ((n d : ℕ) × DrawnOr25 n × FaultText room s n d)
  in_or_out = by_said (read_of room s) refl
    where
      by_said : (r : Said Kbm) → read_of room s ≡ r → IsMapping s ⊎ ((n d : ℕ) × DrawnOr25 n × FaultText room s n d)
      by_said (gives x) e = inl (x, entries_in x.count s, (accepted room s x e).0)
      by_said (refuses n d) e = let f = (refuses_fault room s n d).0 e in inr (n, d, ample_drawn n d f, f)

  no_fault : IsMapping s → (n d : ℕ) → FaultText room s n d → ⊥
  no_fault (x, es, t) n d f = no_value (sym ((refuses_fault room s n d).1 f) ∙ in_language room s t (fits t))

  -- THE LANGUAGE is the texts that draw no number at all, and a text outside it has a fault, one of those numbers
  pub language_ample : IsMapping s ↔ ((n d : ℕ) → FaultText room s n d → ⊥)
  language_ample = (no_fault, back in_or_out)
    where
      back : IsMapping s ⊎ ((n d : ℕ) × DrawnOr25 n × FaultText room s n d) → ((n d : ℕ) → FaultText room s n d → ⊥) → IsMapping s
      back (inl m) h = m
      back (inr (n, d, w, f)) h = absurd (h n d f)

  pub outside_ample : (IsMapping s → ⊥) ↔ ((n d : ℕ) × DrawnOr25 n × FaultText room s n d)
  outside_ample = (forth in_or_out, λ u m. no_fault m u.0 u.1 u.3)
    where
      forth : IsMapping s ⊎ ((n d : ℕ) × DrawnOr25 n × FaultText room s n d) → (IsMapping s → ⊥) → (n d : ℕ) × DrawnOr25 n × FaultText room s n d
      forth (inl m) h = absurd (h m)
      forth (inr u) h = u

-- ---- whatever the room
-- so much more is ample
abbrev most : List ℕ → ℕ → ℕ
most s room = room + (length s + 65536)

-- THE LANGUAGE, in the words of 01 and 02: the texts that draw none of 1 to 11, 13, 14, 18 and 25
pub language_draws : (s : List ℕ) → IsMapping s ↔ ((room n d : ℕ) → DrawnOr25 n → FaultText room s n d → ⊥)
language_draws s = (forth, back)
  where
    forth : IsMapping s → (room n d : ℕ) → DrawnOr25 n → FaultText room s n d → ⊥
    forth m room n d w f =
        (language_ample (most s room) s (omega arith)).0 m n d (record {
          says = f.says;
          text = f.text;
          fault = fault_stays mapping (λ vs es c. WrongEnd room (size_of vs) es c) room f.says n d (λ vs es c. WrongEnd (most s room) (size_of vs) es c) (most s room) (omega arith) (other n w)
              (λ vs es x. end_stays n room (most s room) (size_of vs) es (other n w) x) f.fault;
        })

    back : ((room n d : ℕ) → DrawnOr25 n → FaultText room s n d → ⊥) → IsMapping s
    back h =
        let a : Ample (most s 0) s = omega arith in
        (language_ample (most s 0) s a).1 (λ n d f. h (most s 0) n d (ample_drawn (most s 0) s a n d f) f)
