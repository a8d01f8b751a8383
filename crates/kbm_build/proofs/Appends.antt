-- "Builder calls act, push for push, as appending to a plain list": the table's entries after a push are those before and
-- the new one, and after a run of pushes those before and the run. Assumes nothing.
use Rattle.std.specs.Prelude.{Option}
use mathlib.Core.Path.{◌≡◌, refl, sym, ◌∙◌, ap}
use mathlib.Core.Logic.{inl, inr}
use mathlib.Core.Bool.{true}
use mathlib.Core.List.{List, [], ◌∷◌, ◌++◌, append_assoc, append-nil}
use Prim.Native.Nat.{ℕ, suc, ◌+◌, ◌≤◌, ◌<◌}
use native.Mathlib.Numerals.{add-one}
use native.Mathlib.Omega.{arith}
use lib.Dec.{eqb, leb, ltb}
use lib.IntN.{ℤ}
use lib.ListN.{length, take, set, length-set}
use lib.Seq.{take-suc-set, drop-set-lt}
use borrow.Author.Tests.{eqb-true, leb-true, ltb-true, ltb-false, le-leb}
use Rattle.base.specs.Numbers.{no_room}
use Rattle.base.specs.Said.{gives, refuses}
use Rattle.base.proofs.Integers.{bool_cases}
use Rattle.kbm_build.specs.Builder.{fits_table, with_one_more, with_count, Built, pushed_all, Appended}
use Rattle.kbm.specs.Table.{number_of, numbers_of, IsI16, AreI16, is_entry, are_entries, entries_of, is_table, table_of}
use Rattle.kbm_build.specs.declared.KbmBuilder.{KbmBuilder}
use Rattle.kbm.proofs.Entries.{and_both}
use Rattle.kbm.proofs.Table.{table_entries, entry_back, numbers_usable}
use Rattle.kbm_build.proofs.Pushes.{fitting, push_full, push_more}

entries_append : (xs ys : List ℤ) → entries_of (xs ++ ys) ≡ entries_of xs ++ entries_of ys
unfolding entries_of
entries_append [] ys = refl
entries_append (x ∷ xs) ys = rw (entries_append xs ys)

-- a number set at the next place is one entry more
pub table_set : (count : ℕ) (map : List ℤ) (e : (Option ℤ)) → count < length map → IsI16 e → table_of (count + 1) (set map count (number_of e)) ≡ table_of count map ++ (e ∷ [])
unfolding entries_of
table_set count map e h f =
    rw (add-one, take-suc-set map count (number_of e) h, entries_append (take count map) (number_of e ∷ []), entry_back e f)

entries_both : (xs ys : List ℤ) → are_entries xs ≡ true → are_entries ys ≡ true → are_entries (xs ++ ys) ≡ true
unfolding are_entries
entries_both [] ys f g = g
entries_both (x ∷ xs) ys f g = let tests = and_both (is_entry x) (are_entries xs) f in rw tests.0 (entries_both xs ys tests.1 g)

-- and a usable table stays usable
pub table_set_usable : (count : ℕ) (map : List ℤ) (e : (Option ℤ)) → count < length map → IsI16 e → is_table count map ≡ true → is_table (count + 1) (set map count (number_of e)) ≡ true
unfolding numbers_of
table_set_usable count map e h f t =
    let fits : leb (suc count) (length (set map count (number_of e))) ≡ true = le-leb (suc count) (length (set map count (number_of e))) (rw (length-set map count (number_of e)) h) in
    rw (add-one, fits, take-suc-set map count (number_of e) h) (entries_both (take count map) (number_of e ∷ []) (table_entries count map t) (numbers_usable (e ∷ []) (f, tt)))

-- ---- a run of pushes
module _ (b : KbmBuilder) (map : List ℤ) (f : fits_table b map ≡ true) where
  pub fit_room : b.room ≡ length map
  fit_room = eqb-true b.room (length map) (and_both (eqb b.room (length map)) (leb b.count b.room) f).0

  pub fit_count : b.count ≤ b.room
  fit_count = leb-true b.count b.room (and_both (eqb b.room (length map)) (leb b.count b.room) f).1

  module _ (h : b.count < b.room) (e : (Option ℤ)) where
    -- the table after the push
    abbrev next : List ℤ
    next = set map b.count (number_of e)

    next_fits : fits_table (with_one_more b) next ≡ true
    next_fits = fitting (with_one_more b) next (rw (length-set map b.count (number_of e)) fit_room) (omega (arith, h))

    all_next : (es : List (Option ℤ)) → pushed_all b map (e ∷ es) ≡ pushed_all (with_one_more b) next es
    unfolding pushed_all
    all_next es = rw (push_more b map fit_room h)

    appended_next : {es : List (Option ℤ)} {left : Built} → IsI16 e → Appended (with_one_more b) next es left → Appended b map (e ∷ es) left
    appended_next {es} {left} i a =
        let n : b.count + 1 + length es ≡ b.count + length (e ∷ es) = omega arith in
        let room : b.count < length map = omega (arith, h, fit_room) in
        record {
          entries = a.entries ∙ (rw (table_set b.count map e room i) (append_assoc (table_of b.count map) (e ∷ []) es));
          counted = a.counted ∙ ap (with_count b) n;
          others = rw (← n) (a.others ∙ drop-set-lt (b.count + 1 + length es) map b.count (number_of e) (omega arith));
          places = a.places ∙ length-set map b.count (number_of e);
          usable = λ t. a.usable (table_set_usable b.count map e room i t);
        }

none_appended : (b : KbmBuilder) (map : List ℤ) → Appended b map [] (record { builder = b; table = map })
none_appended b map = record { entries = sym (append-nil (table_of b.count map)); counted = ap (with_count b) (omega arith); others = refl; places = refl; usable = λ t. t }

-- with places enough every push is accepted, and the run is appended
pub run_appends : (es : List (Option ℤ)) (b : KbmBuilder) (map : List ℤ) → fits_table b map ≡ true → AreI16 es → b.count + length es ≤ b.room →
    (left : Built) × ((pushed_all b map es ≡ gives left) × Appended b map es left)
unfolding pushed_all
run_appends [] b map f i h = (record { builder = b; table = map }, (refl, none_appended b map))
run_appends (e ∷ es) b map f i h =
    let here : b.count < b.room = omega (arith, h) in
    let rest = run_appends es (with_one_more b) (set map b.count (number_of e)) (next_fits b map f here e) i.1 (omega (arith, h)) in
    (rest.0, (all_next b map f here e es ∙ rest.1.0, appended_next b map f here e i.0 rest.1.1))

-- with too few the run is refused by 12
pub run_refused : (es : List (Option ℤ)) (b : KbmBuilder) (map : List ℤ) → fits_table b map ≡ true → b.room < b.count + length es → pushed_all b map es ≡ refuses no_room 0
unfolding pushed_all
run_refused [] b map f h = absurd (omega (arith, h, fit_count b map f))
run_refused (e ∷ es) b map f h = elim (bool_cases (ltb b.count b.room)) [
  | inl t ↦ let here = ltb-true b.count b.room t in all_next b map f here e es ∙ run_refused es (with_one_more b) (set map b.count (number_of e)) (next_fits b map f here e) (omega (arith, h))
  | inr t ↦ let full : b.count ≡ b.room = omega (arith, ltb-false b.count b.room t, fit_count b map f) in rw (push_full b map (fit_room b map f) full)
]
