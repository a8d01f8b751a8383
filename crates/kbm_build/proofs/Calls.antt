-- "Builder calls act, push for push, as appending to a plain list. [..] a refused push appends nothing" (document 01, "What is taken",
-- 5): after any run of calls from a new builder, refused pushes among them, the builder acts as the plain list. Assumes nothing.
use Rattle.std.specs.Prelude.{Option, Some, None}
use mathlib.Core.Path.{◌≡◌, refl, sym, ◌∙◌, ap}
use mathlib.Core.Bool.{Bool, true, false}
use mathlib.Core.List.{List, [], ◌∷◌, ◌++◌, append_assoc, append-nil}
use Prim.Native.Nat.{ℕ, suc, ◌+◌, ◌-◌, ◌≤◌, ◌<◌}
use native.Mathlib.Omega.{arith}
use lib.Dec.{ltb}
use lib.IntN.{ℤ}
use lib.ListN.{length, take, drop, set, length-set, length-append}
use lib.Seq.{take_all, drop-set-lt, drop-drop}
use borrow.Author.Tests.{leb-true, ltb-true, ltb-false}
use Rattle.base.specs.Numbers.{no_room}
use Rattle.base.specs.Said.{Said, gives, refuses, pick}
use Rattle.kbm.specs.Root.{is_root}
use Rattle.kbm.specs.Table.{number_of, IsI16, is_table, table_of}
use Rattle.kbm.specs.declared.KbmRoot.{KbmRoot}
use Rattle.kbm.proofs.Entries.{and_both}
use Rattle.kbm_build.specs.Builder.{builder_of, empty, with_one_more, fits_table, pushed, set_where, kbm_of, built}
use Rattle.kbm_build.specs.Calls.{Call, OfTypes, beside, builder_after, after_call, after_calls, Plain, fresh, appended, plain_call, plain_calls, entries_pushed, plain_built, builder_for, Acts}
use Rattle.kbm_build.specs.declared.KbmBuilder.{KbmBuilder}
use Rattle.kbm_build.proofs.Appends.{table_set, table_set_usable}
use Rattle.kbm_build.proofs.Plain.{new_is_empty, empty_usable, empty_entries}
use Rattle.kbm_build.proofs.Pushes.{fitting, push_full, push_more}

-- what a push leaves, by what is said of it
left_by : (b : KbmBuilder) (t : List ℤ) (e : (Option ℤ)) {s : Said KbmBuilder} → pushed b t ≡ s → after_call (beside b t) (Call.push e) ≡ beside (builder_after b s) (set_where s t b.count (number_of e))
left_by b t e h = ap (λ (s : Said KbmBuilder). beside (builder_after b s) (set_where s t b.count (number_of e))) h

module _ (map : List ℤ) where
  -- what the table holds of a plain list, with a root that can be used
  record Held (p : Plain) (t : List ℤ) : Type 0 where
    entries : table_of (length p.entries) t ≡ p.entries
    others : drop (length p.entries) t ≡ drop (length p.entries) map
    places : length t ≡ length map
    usable : is_table (length p.entries) t ≡ true
    root : is_root p.root ≡ true

  abbrev state : Plain → KbmBuilder
  state = builder_for (length map)

  module _ (p : Plain) (t : List ℤ) (h : Held p t) where
    few : length p.entries ≤ length t
    few = leb-true (length p.entries) (length t) (and_both _ _ h.usable).0

    fits : fits_table (state p) t ≡ true
    fits = fitting (state p) t (sym h.places) (omega (arith, few, h.places))

    -- a build is the plain list's
    built_plain : built (state p) t ≡ plain_built p p.octave
    unfolding built
    built_plain = rw (fits, h.usable, h.root) (go p.octave)
      where
        go : (o : (Option ℤ)) → kbm_of (state p) o ≡ plain_built p o
        go (Some z) = refl
        go None = refl

    module _ (e : (Option ℤ)) where
      more : length (p.entries ++ (e ∷ [])) ≡ length p.entries + 1
      more = length-append p.entries (e ∷ [])

      one_more : with_one_more (state p) ≡ state (appended p e)
      one_more = ap (λ (n : ℕ). record { root = p.root; start = p.start; end = p.end; octave = p.octave; room = length map; count = n }) (sym more)

      -- a push with a place left, and with none
      says_more : length p.entries < length map → pushed (state p) t ≡ gives (state (appended p e))
      says_more l = push_more (state p) t (sym h.places) l ∙ ap gives one_more

      says_full : length map ≤ length p.entries → pushed (state p) t ≡ refuses no_room 0
      says_full l = push_full (state p) t (sym h.places) (omega (arith, few, h.places))

      next_says : pushed (state p) t ≡ pick (ltb (length p.entries) (length map)) (gives (state (appended p e))) (refuses no_room 0)
      next_says = go (ltb (length p.entries) (length map)) refl
        where
          go : (b : Bool) → ltb (length p.entries) (length map) ≡ b → pushed (state p) t ≡ pick b (gives (state (appended p e))) (refuses no_room 0)
          go true l = says_more (ltb-true (length p.entries) (length map) l)
          go false l = says_full (ltb-false (length p.entries) (length map) l)

      abbrev written : List ℤ
      written = set t (length p.entries) (number_of e)

      held_more : length p.entries < length map → IsI16 e → Held (appended p e) written
      held_more l i =
          let n = length p.entries in
          let room : n < length t = omega (arith, h.places) in
          let behind : drop (n + 1) t ≡ drop (n + 1) map = sym (drop-drop 1 n t) ∙ ap (drop 1) h.others ∙ drop-drop 1 n map in
          record {
            entries = rw more (table_set n t e room i ∙ ap (λ (es : List (Option ℤ)). es ++ (e ∷ [])) h.entries);
            others = rw more (drop-set-lt (n + 1) t n (number_of e) (omega arith) ∙ behind);
            places = length-set t n (number_of e) ∙ h.places;
            usable = rw more (table_set_usable n t e room i h.usable);
            root = h.root;
          }

      -- after the push
      push_goes : IsI16 e → (t' : List ℤ) × ((after_call (beside (state p) t) (Call.push e) ≡ beside (state (plain_call (length map) p (Call.push e))) t') × Held (plain_call (length map) p (Call.push e)) t')
      push_goes i = go (ltb (length p.entries) (length map)) refl
        where
          go : (b : Bool) → ltb (length p.entries) (length map) ≡ b → (t' : List ℤ) × ((after_call (beside (state p) t) (Call.push e) ≡ beside (state (pick b (appended p e) p)) t') × Held (pick b (appended p e) p) t')
          go true l = let r = ltb-true (length p.entries) (length map) l in (written, (left_by (state p) t e (says_more r), held_more r i))
          go false l = (t, (left_by (state p) t e (says_full (ltb-false (length p.entries) (length map) l)), h))

    acts : Acts map p (beside (state p) t)
    acts = record { builder = refl; entries = h.entries; others = h.others; places = h.places; usable = h.usable; next = next_says; mapping = built_plain }

  -- the same entries, whatever keys and octave
  same_held : (p q : Plain) (t : List ℤ) → p.root ≡ q.root → p.entries ≡ q.entries → Held p t → Held q t
  same_held p q t r e h = record { entries = rw (← e) h.entries; others = rw (← e) h.others; places = h.places; usable = rw (← e) h.usable; root = rw (← r) h.root }

  run_acts : (cs : List Call) (p : Plain) (t : List ℤ) → OfTypes cs → Held p t → Acts map (plain_calls (length map) p cs) (after_calls (beside (state p) t) cs)
  unfolding after_calls plain_calls
  run_acts [] p t i h = acts p t h
  run_acts (Call.range start end ∷ cs) p t i h = run_acts cs (plain_call (length map) p (Call.range start end)) t i (same_held p (plain_call (length map) p (Call.range start end)) t refl refl h)
  run_acts (Call.octave z ∷ cs) p t i h = run_acts cs (plain_call (length map) p (Call.octave z)) t i (same_held p (plain_call (length map) p (Call.octave z)) t refl refl h)
  run_acts (Call.push e ∷ cs) p t i h =
      let g = push_goes p t h e i.0 in
      let rest = run_acts cs (plain_call (length map) p (Call.push e)) g.0 i.1 g.1.1 in
      rw g.1.0 rest

  -- FROM A NEW BUILDER: after any run of calls it acts as the plain list
  pub calls_act : (root : KbmRoot) → is_root root ≡ true → (cs : List Call) → OfTypes cs →
      (builder_of root map ≡ gives (empty root map)) × Acts map (plain_calls (length map) (fresh root) cs) (after_calls (beside (empty root map) map) cs)
  calls_act root r cs i =
      let none : Held (fresh root) map = record { entries = empty_entries root map; others = refl; places = refl; usable = empty_usable root map; root = r } in
      (new_is_empty root map r, run_acts cs (fresh root) map i none)

-- and the plain list is what was pushed, as far as there are places
pub plain_pushed : (room : ℕ) (cs : List Call) (p : Plain) → (plain_calls room p cs).entries ≡ p.entries ++ take (room - length p.entries) (entries_pushed cs)
unfolding plain_calls entries_pushed
plain_pushed room [] p = rw (take_all {A = (Option ℤ)} (room - length p.entries) [] (omega arith)) (sym (append-nil p.entries))
plain_pushed room (Call.range start end ∷ cs) p = plain_pushed room cs (plain_call room p (Call.range start end))
plain_pushed room (Call.octave z ∷ cs) p = plain_pushed room cs (plain_call room p (Call.octave z))
plain_pushed room (Call.push e ∷ cs) p = go (ltb (length p.entries) room) refl (plain_pushed room cs (appended p e)) (plain_pushed room cs p)
  where
    go : (b : Bool) → ltb (length p.entries) room ≡ b → (plain_calls room (appended p e) cs).entries ≡ (p.entries ++ (e ∷ [])) ++ take (room - length (p.entries ++ (e ∷ []))) (entries_pushed cs)
        → (plain_calls room p cs).entries ≡ p.entries ++ take (room - length p.entries) (entries_pushed cs)
        → (plain_calls room (pick b (appended p e) p) cs).entries ≡ p.entries ++ take (room - length p.entries) (e ∷ entries_pushed cs)
    go true l new old =
        let n : room - length p.entries ≡ suc (room - length (p.entries ++ (e ∷ []))) = omega (arith, ltb-true (length p.entries) room l, length-append p.entries (e ∷ [])) in
        new ∙ append_assoc p.entries (e ∷ []) (take (room - length (p.entries ++ (e ∷ []))) (entries_pushed cs)) ∙ ap (λ (k : ℕ). p.entries ++ take k (e ∷ entries_pushed cs)) (sym n)
    go false l new old =
        let n : room - length p.entries ≡ 0 = omega (arith, ltb-false (length p.entries) room l) in
        old ∙ ap (λ (k : ℕ). p.entries ++ take k (entries_pushed cs)) n ∙ ap (λ (k : ℕ). p.entries ++ take k (e ∷ entries_pushed cs)) (sym n)
