-- The samples of the round trip, by the theorem and computation. Assumes nothing.
use mathlib.Core.Path.{◌≡◌, refl, sym, ◌∙◌, ap}
use mathlib.Core.Bool.{true, false}
use mathlib.Core.List.{List, [], ◌∷◌}
use mathlib.Core.Logic.{inl, inr}
use Prim.Native.Nat.{ℕ}
use native.Mathlib.Omega.{arith}
use lib.Dec.{lit<, lit≤}
use lib.Ieee.{Float, binary64, round, size, of_bits, of_int, div, le, lt, eq, neg}
use Rattle.base.specs.Said.{gives}
use Rattle.floats.specs.Units.{negative}
use Rattle.explog.specs.Log.{b_of, y_of}
use Rattle.explog.specs.Rules.{L, log_of, log_at, octaves_of}
use Rattle.scl.specs.Items.{AllHeld}
use Rattle.scl.specs.Table.{implicit, are_usable}
use Rattle.scl_read.proofs.Usable.{implicit_usable, implicit_held}
use Rattle.scl_tables.specs.Build.{scale_of, is_beyond}
use Rattle.scl_tables.proofs.Beyond.{scale_looks}
use Rattle.scl_tables.proofs.Theorems.{list_given}
use Rattle.scl_write.specs.Export.{item_texts}
use Rattle.sorting.specs.Entries.{Entry}
use Rattle.utf8.specs.Utf8Machine.{lead_of, utf8_step, utf8_from}
use Rattle.utf8.proofs.Utf8Language.{accepts}
use Rattle.utf8.proofs.Encodings.{enc1}
use Rattle.white.specs.Trim.{width_by, run}
use Rattle.white.proofs.TrimLanguage.{trimmed}
use Rattle.writing.specs.Lines.{lines_text}
use Rattle.promises.specs.scl.Again.{Described}
use Rattle.promises.specs.scl.Samples.{words, fifths, sixteenth, Again, Back}
use Rattle.promises.proofs.scl.RoundTrip.{items_came, round_trip}
use Rattle.promises.proofs.scl.Described.{text_described}

-- the items are usable, held, and within reach
fifths_usable : are_usable fifths ≡ true
unfolding are_usable round of_bits le lt eq neg
fifths_usable = refl

fifths_held : AllHeld fifths
fifths_held = (tt, ((lit< tt, lit< tt), ((lit< tt, lit< tt), tt)))

-- so they have a sorted list
all_usable : are_usable (implicit ∷ fifths) ≡ true
unfolding are_usable
all_usable = rw implicit_usable fifths_usable

fifths_sorted : (list : List Entry) × (scale_of (implicit ∷ fifths) ≡ gives list)
unfolding is_beyond L log_of log_at octaves_of b_of y_of le lt eq round size of_bits of_int div neg
fifths_sorted =
    let (list, e) = list_given (implicit ∷ fifths) (lit< tt) (implicit_held, fifths_held) all_usable in
    (list, scale_looks (implicit ∷ fifths) ∙ e)

-- the description is one that comes back
words_described : Described words
unfolding utf8_from utf8_step lead_of width_by run
words_described =
    record {
      utf8 = (accepts words).0 refl;
      not_blank = λ e. no_nil e;
      trimmed = trimmed words;
      no_lf = (λ e. omega (arith, e), (λ e. omega (arith, e), (λ e. omega (arith, e), tt)));
      no_mark = λ (t, e). no_first e;
    }
  where
    no_nil : {b : ℕ} {l : List ℕ} → b ∷ l ≡ [] → ⊥
    no_nil e = let z : ◌≡◌ {A = ℕ} 0 1 = cc in omega arith

    no_first : {t : List ℕ} → words ≡ 33 ∷ t → ⊥
    no_first e = let z : ◌≡◌ {A = ℕ} 97 33 = cc in omega arith

-- those that a line does not give back
lost : {d : List ℕ} → (Described d → ⊥) → Again d fifths → ⊥
lost n (list, t) = n (text_described t)

pub samples : Back
unfolding lines_text item_texts are_usable round of_bits le neg negative utf8_from utf8_step lead_of
samples =
    let (list, e) = fifths_sorted in
    record {
      bytes = refl;
      back = (list, (round_trip words fifths list fifths_held fifths_usable (lit≤ tt) e).1 (record { described = words_described; cents = (refl, (tt, (tt, tt))) }));
      sixteenth_lost = λ (l, t). no_test (ap (λ (x : Float). le (round binary64 false 1 16) x) (items_came words sixteenth l refl t words_described).0);
      empty_lost = lost (λ b. b.not_blank refl);
      space_lost = lost (λ b. b.trimmed.ends 32 (97 ∷ []) (inr (inl (omega arith, omega arith))) (ap (λ (l : List ℕ). 97 ∷ l) (sym (enc1 32 (omega arith)))));
      lf_lost = lost (λ b. b.no_lf.1.0 refl);
      mark_lost = lost (λ b. b.no_mark (97 ∷ [], refl));
    }
  where
    no_test : false ≡ true → ⊥
    no_test e = let z : ◌≡◌ {A = ℕ} 0 1 = cc in omega arith
