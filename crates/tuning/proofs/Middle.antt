-- PITCHES COUNTED FROM THE MIDDLE KEY: what the calls say, case by case in document 02's order (W1), and nothing else. Assumes nothing.
use Rattle.std.specs.Prelude.{Option}
use mathlib.Core.Path.{◌≡◌, refl, sym, ◌∙◌, ap, subst}
use mathlib.Core.Logic.{◌↔◌}
use mathlib.Core.Bool.{Bool, true, false, ◌&&◌, true≢false}
use mathlib.Core.List.{List}
use Prim.Native.Nat.{ℕ}
use lib.IntN.{ℤ, pos, ◌+ℤ◌, +ℤ_idr}
use lib.Ieee.{Float}
use Rattle.base.specs.Integers.{in_i32, held}
use Rattle.base.specs.Numbers.{overflow, unusable}
use Rattle.base.specs.Said.{Said, gives, refuses, and_then}
use Rattle.key.specs.Keys.{key}
use Rattle.key.specs.declared.PianoKey.{PianoKey}
use Rattle.scl.specs.Table.{ItemTable, items_in, is_items}
use Rattle.scl.specs.declared.Item.{Item}
use Rattle.kbm.specs.Degree.{degree_of}
use Rattle.kbm.specs.Keys.{Has}
use Rattle.kbm.specs.Middle.{at_middle, reference_degree, StartsAtZero}
use Rattle.kbm.specs.ReferenceKey.{ReferenceHas}
use Rattle.kbm.specs.Root.{is_root}
use Rattle.kbm.specs.Table.{is_table, table_of}
use Rattle.kbm.specs.declared.Kbm.{Kbm}
use Rattle.kbm.proofs.Language.{has, has_one}
use Rattle.kbm.proofs.Middle.{reference_zero, reference_has}
use Rattle.relative.specs.Pitches.{pitch_from, pitch_of}
use Rattle.relative.specs.Refusals.{ReachedOrBeyond}
use Rattle.relative.specs.Scales.{tested}
use Rattle.relative.proofs.Theorems.{hz_reach, from_reached}
use Rattle.tuning.specs.Keys.{maybe_pitch_of}
use Rattle.tuning.specs.Middle.{maybe_pitch_from_middle}
use Rattle.tuning.specs.MiddleRefusals.{KeySoundsFromMiddle}
use Rattle.tuning.specs.Run.{key_pitches_from_middle}

module _ (items : List Item) (kbm : Kbm) (map : List ℤ) (k : PianoKey) where
  abbrev es : List (Option ℤ)
  es = table_of kbm.count map

  -- what is said of the key's degree, of the reference key's, and what each goes on to
  abbrev asked : Said ℤ
  asked = degree_of (at_middle kbm) es k

  abbrev above : ℤ → ℤ → Said Float
  above degree root = pitch_from items kbm.root.pitch.0 root degree

  abbrev on : ℤ → Said Float
  on degree = and_then (reference_degree kbm es) (above degree)

  abbrev Sounds : Said Float → Type 0
  Sounds = KeySoundsFromMiddle items kbm es k

  -- ---- the answer is one of the cases
  module _ (o : is_root kbm.root ≡ true) where
    rest : (d : ℤ) → Has (at_middle kbm) es k (gives d) → asked ≡ gives d → Sounds (and_then asked on)
    rest d h e = go ((reference_has kbm es (reference_degree kbm es)).0 refl)
      where
        by : {s : Said ℤ} → reference_degree kbm es ≡ s → and_then asked on ≡ and_then s (above d)
        by p = ap (λ x. and_then x on) e ∙ ap (λ x. and_then x (above d)) p

        pitched : {root : ℤ} → ReferenceHas kbm es (gives root) → reference_degree kbm es ≡ gives root → Sounds (and_then asked on)
        pitched {root} r p =
            KeySoundsFromMiddle.sounds d root h r (by p)
            (subst ReachedOrBeyond (sym (by p)) (from_reached items kbm.root.pitch.0 (hz_reach kbm.root o) root d))

        go : ReferenceHas kbm es (reference_degree kbm es) → Sounds (and_then asked on)
        go (ReferenceHas.far n p) = KeySoundsFromMiddle.reference_passed d h (ReferenceHas.far n refl) (by p)
        go (ReferenceHas.plain n l p) = pitched (ReferenceHas.plain n l refl) p
        go (ReferenceHas.none n q r p) = KeySoundsFromMiddle.reference_none d h (ReferenceHas.none n q r refl) (by p)
        go (ReferenceHas.passed n q z r c p) = KeySoundsFromMiddle.reference_passed d h (ReferenceHas.passed n q z r c refl) (by p)
        go (ReferenceHas.degree n q z r c p) = pitched (ReferenceHas.degree n q z r c refl) p

    there : Sounds (maybe_pitch_from_middle items kbm map k)
    there = go (has (at_middle kbm) es k)
      where
        by : {s : Said ℤ} → asked ≡ s → and_then asked on ≡ and_then s on
        by e = ap (λ x. and_then x on) e

        go : Has (at_middle kbm) es k asked → Sounds (and_then asked on)
        go (Has.outside w e) = KeySoundsFromMiddle.outside (Has.outside w refl) (by e)
        go (Has.far w n e) = KeySoundsFromMiddle.passed (Has.far w n refl) (by e)
        go (Has.plain w n l e) = rest _ (Has.plain w n l refl) e
        go (Has.none w n q r e) = KeySoundsFromMiddle.unmapped (Has.none w n q r refl) (by e)
        go (Has.passed w n q z r c e) = KeySoundsFromMiddle.passed (Has.passed w n q z r c refl) (by e)
        go (Has.degree w n q z r c e) = rest _ (Has.degree w n q z r c refl) e

  -- ---- and there is no other answer
  had : {s : Said ℤ} → Has (at_middle kbm) es k s → maybe_pitch_from_middle items kbm map k ≡ and_then s on
  had h = ap (λ x. and_then x on) (sym (has_one (at_middle kbm) es k h))

  referred : {d : ℤ} {s : Said ℤ} → Has (at_middle kbm) es k (gives d) → ReferenceHas kbm es s →
      maybe_pitch_from_middle items kbm map k ≡ and_then s (above d)
  referred {d} {s} h r = had h ∙ ap (λ x. and_then x (above d)) ((reference_has kbm es s).1 r)

  back : {s : Said Float} → Sounds s → maybe_pitch_from_middle items kbm map k ≡ s
  back (KeySoundsFromMiddle.outside h p) = had h ∙ sym p
  back (KeySoundsFromMiddle.passed h p) = had h ∙ sym p
  back (KeySoundsFromMiddle.unmapped h p) = had h ∙ sym p
  back (KeySoundsFromMiddle.reference_passed d h r p) = referred h r ∙ sym p
  back (KeySoundsFromMiddle.reference_none d h r p) = referred h r ∙ sym p
  back (KeySoundsFromMiddle.sounds d root h r p q) = referred h r ∙ sym p

  -- THE ORDER, both ways: with a usable root the answer is s exactly if s is what the cases say
  pub key_sounds_from_middle : is_root kbm.root ≡ true → (s : Said Float) → (maybe_pitch_from_middle items kbm map k ≡ s) ↔ Sounds s
  key_sounds_from_middle o s = ((λ e. subst Sounds e (there o)), back)

-- ---- EACH KEY OF A RUN says what the single call says of it, case by case; 11 where there is no such key
module _ (items : List Item) (kbm : Kbm) (map : List ℤ) (first : PianoKey) (k : ℕ) where
  pub run_no_key : in_i32 (first.0 +ℤ pos k) ≡ false → key_pitches_from_middle items kbm map first k ≡ refuses overflow 0
  unfolding held
  run_no_key e = rw e

  pub run_key_sounds : in_i32 (first.0 +ℤ pos k) ≡ true → is_root kbm.root ≡ true → (s : Said Float) →
      (key_pitches_from_middle items kbm map first k ≡ s) ↔ KeySoundsFromMiddle items kbm (table_of kbm.count map) (key (first.0 +ℤ pos k)) s
  unfolding held
  run_key_sounds e o s = rw e (key_sounds_from_middle items kbm map (key (first.0 +ℤ pos k)) o s)

-- where middle and reference key are one, and the first entry is 0 or there is none, a key sounds the same in both countings
pub same_pitch : (items : List Item) (kbm : Kbm) (map : List ℤ) (k : PianoKey) → kbm.root.offset ≡ pos 0 →
    StartsAtZero (table_of kbm.count map) → maybe_pitch_from_middle items kbm map k ≡ maybe_pitch_of items kbm map k
unfolding pitch_of held
same_pitch items kbm map k o z = rw (reference_zero kbm o (table_of kbm.count map) z, o, +ℤ_idr kbm.root.reference.0)

-- ---- the call: 10 first, for items, root or table; else the cases
module _ (count : ℕ) (t : ItemTable) (kbm : Kbm) (map : List ℤ) (k : PianoKey) where
  abbrev said : Said Float
  said =
      tested (is_items count t && is_root kbm.root)
      (tested (is_table kbm.count map) (maybe_pitch_from_middle (items_in count t) kbm map k))

  pub maybe_pitch_from_middle_unusable : ((is_items count t && is_root kbm.root) && is_table kbm.count map) ≡ false →
      said ≡ refuses unusable 0
  maybe_pitch_from_middle_unusable e = go (is_items count t && is_root kbm.root) (is_table kbm.count map) e
    where
      go : (a b : Bool) → (a && b) ≡ false → tested a (tested b (maybe_pitch_from_middle (items_in count t) kbm map k)) ≡ refuses unusable 0
      go true true h = absurd (true≢false h)
      go true false h = refl
      go false b h = refl

  pub maybe_pitch_from_middle_exactly : is_items count t ≡ true → is_root kbm.root ≡ true → is_table kbm.count map ≡ true →
      (s : Said Float) → (said ≡ s) ↔ KeySoundsFromMiddle (items_in count t) kbm (table_of kbm.count map) k s
  maybe_pitch_from_middle_exactly it o u s = rw (it, o, u) (key_sounds_from_middle (items_in count t) kbm map k o s)
