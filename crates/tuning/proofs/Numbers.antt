-- What the pitch calls say is a value or one of document 01's numbers. Assumes nothing.
use Rattle.std.specs.Prelude.{Option}
use mathlib.Core.Path.{sym, subst, ◌≡◌, refl, ◌∙◌, ap}
use mathlib.Core.Bool.{◌&&◌, Bool, true, false}
use mathlib.Core.List.{List}
use Prim.Native.Nat.{ℕ, ◌≤◌, ◌<◌}
use native.Mathlib.Omega.{arith}
use lib.IntN.{ℤ, ◌+ℤ◌, ◌-ℤ◌, pos}
use lib.Dec.{leb}
use lib.ListN.{length, get_or}
use lib.Ieee.{Float}
use borrow.Author.Tests.{leb-true}
use Rattle.base.specs.Said.{Said, Numbered, gives, refuses, pick, and_then}
use Rattle.base.proofs.Said.{numbered_then, numbered_pick}
use Rattle.key.specs.Keys.{key}
use Rattle.key.specs.declared.PianoKey.{PianoKey}
use Rattle.sorted.specs.Lent.{ListTable, list_in}
use Rattle.scl.specs.Table.{ItemTable, items_in, is_items}
use Rattle.scl.specs.declared.Item.{Item}
use Rattle.kbm.specs.Degree.{degree_of}
use Rattle.kbm.specs.Keys.{Has}
use Rattle.kbm.specs.Root.{is_root}
use Rattle.kbm.specs.Table.{is_table, table_of}
use Rattle.kbm.specs.declared.Kbm.{Kbm}
use Rattle.kbm.specs.declared.KbmRoot.{KbmRoot}
use Rattle.kbm.proofs.Language.{has}
use Rattle.relative.specs.Scales.{tested, is_scale}
use Rattle.relative.proofs.Numbers.{tested_numbered, held_numbered, pitch_numbered, sorted_pitch_numbered}
use Rattle.relative.specs.Pitches.{pitch_of, sorted_pitch_of, pitch_from}
use Rattle.base.specs.Integers.{in_i32, held}
use Rattle.base.specs.Numbers.{no_room, unusable, overflow}
use Rattle.scl.proofs.Table.{both}
use Rattle.relative.specs.Refusals.{ReachedOrBeyond}
use Rattle.relative.proofs.Back.{pick_given}
use Rattle.relative.proofs.Theorems.{hz_reach, from_reached}
use Rattle.tuning.specs.Keys.{key_pitch_of, maybe_pitch_of, maybe_degree_pitch_of}
use Rattle.tuning.specs.Beside.{Beside}
use Rattle.tuning.specs.Run.{key_at, key_pitches, number_beside, is_tuning, run_of, after_numbers}
use Rattle.tuning.proofs.Theorems.{number_at}

-- ---- the degree of a key
has_numbered : {kbm : Kbm} {es : List (Option ℤ)} {k : PianoKey} {s : Said ℤ} → Has kbm es k s → Numbered s
has_numbered (Has.outside a e) = subst Numbered (sym e) (Numbered.number (omega arith) (omega arith))
has_numbered (Has.far a b e) = subst Numbered (sym e) (Numbered.number (omega arith) (omega arith))
has_numbered (Has.plain a b c e) = subst Numbered (sym e) (Numbered.value _)
has_numbered (Has.none a b q r e) = subst Numbered (sym e) (Numbered.number (omega arith) (omega arith))
has_numbered (Has.passed a b q z r c e) = subst Numbered (sym e) (Numbered.number (omega arith) (omega arith))
has_numbered (Has.degree a b q z r c e) = subst Numbered (sym e) (Numbered.value _)

pub degree_numbered : (kbm : Kbm) (es : List (Option ℤ)) (k : PianoKey) → Numbered (degree_of kbm es k)
degree_numbered kbm es k = has_numbered (has kbm es k)

-- the pitch of a key of a mapping
pub maybe_numbered : (items : List Item) (kbm : Kbm) (map : List ℤ) (k : PianoKey) → Numbered (maybe_pitch_of items kbm map k)
maybe_numbered items kbm map k = numbered_then (degree_numbered kbm (table_of kbm.count map) k) (pitch_numbered items kbm.root)

-- ---- the calls
module _ (count : ℕ) (t : ItemTable) where
  pub pitch_of_numbered : (root : KbmRoot) (d : ℤ) → Numbered (tested (is_items count t && is_root root) (pitch_of (items_in count t) root d))
  pitch_of_numbered root d = tested_numbered (is_items count t && is_root root) (pitch_numbered (items_in count t) root d)

  pub pitch_of_key_numbered : (root : KbmRoot) (k : PianoKey) → Numbered (tested (is_items count t && is_root root) (key_pitch_of (items_in count t) root k))
  pitch_of_key_numbered root k = tested_numbered (is_items count t && is_root root) (numbered_then (held_numbered (k.0 -ℤ root.reference.0)) (pitch_numbered (items_in count t) root))

  pub sorted_pitch_of_numbered : (l : ListTable) (root : KbmRoot) (d : ℤ) → Numbered (tested (is_scale count t l && is_root root) (sorted_pitch_of (items_in count t) (list_in count l) root d))
  sorted_pitch_of_numbered l root d = tested_numbered (is_scale count t l && is_root root) (sorted_pitch_numbered (items_in count t) (list_in count l) root d)

  pub maybe_pitch_of_numbered : (kbm : Kbm) (map : List ℤ) (k : PianoKey) → Numbered (tested (is_items count t && is_root kbm.root) (tested (is_table kbm.count map) (maybe_pitch_of (items_in count t) kbm map k)))
  maybe_pitch_of_numbered kbm map k = tested_numbered (is_items count t && is_root kbm.root) (tested_numbered (is_table kbm.count map) (maybe_numbered (items_in count t) kbm map k))

  pub maybe_pitch_of_degree_numbered : (kbm : Kbm) (map : List ℤ) (d : ℤ) → Numbered (tested (is_items count t && is_root kbm.root) (tested (is_table kbm.count map) (maybe_degree_pitch_of (items_in count t) kbm map d)))
  maybe_pitch_of_degree_numbered kbm map d =
      tested_numbered (is_items count t && is_root kbm.root)
      (tested_numbered (is_table kbm.count map)
      (numbered_then (numbered_then (held_numbered (kbm.root.reference.0 +ℤ d)) (λ z. Numbered.value (key z))) (maybe_numbered (items_in count t) kbm map)))

-- ---- a run of keys
pub run_numbered : (count : ℕ) (t : ItemTable) (kbm : Kbm) (map : List ℤ) (keys hz numbers : ℕ) → Numbered (run_of count t kbm map keys hz numbers)
run_numbered count t kbm map keys hz numbers =
    tested_numbered (is_tuning count t kbm map) (numbered_pick (leb keys hz && leb keys numbers) (Numbered.value tt) (Numbered.number (omega arith) (omega arith)))

pub key_numbered : (items : List Item) (kbm : Kbm) (map : List ℤ) (first : PianoKey) (k : ℕ) → Numbered (key_pitches items kbm map first k)
key_numbered items kbm map first k = numbered_then (numbered_then (held_numbered (first.0 +ℤ pos k)) (λ z. Numbered.value (key z))) (maybe_numbered items kbm map)

-- ---- beside each key of it
-- where t says what s says, what stands beside s stands beside t
pub along : (B : Said Float → ℕ → Type 0) {s t : Said Float} → t ≡ s → B s (number_beside s) → B t (number_beside t)
along B e h = subst (λ (x : Said Float). B x (number_beside x)) (sym e) h

pub reached_beside : {s : Said Float} → ReachedOrBeyond s → Beside s (number_beside s)
reached_beside (ReachedOrBeyond.reached x r e) = along Beside e (Beside.sounds x refl)
reached_beside (ReachedOrBeyond.beyond e) = along Beside e (Beside.beyond refl)

module _ (items : List Item) (root : KbmRoot) (o : is_root root ≡ true) where
  pitch_beside : (d : ℤ) → Beside (pitch_of items root d) (number_beside (pitch_of items root d))
  unfolding pitch_of held
  pitch_beside d = go (in_i32 (pos 0 -ℤ root.offset))
    where
      go : (b : Bool) → Beside (and_then (pick b (gives (pos 0 -ℤ root.offset)) (refuses overflow 0)) (λ at. pitch_from items root.pitch.0 at d)) (number_beside (and_then (pick b (gives (pos 0 -ℤ root.offset)) (refuses overflow 0)) (λ at. pitch_from items root.pitch.0 at d)))
      go true = reached_beside (from_reached items root.pitch.0 (hz_reach root o) (pos 0 -ℤ root.offset) d)
      go false = Beside.passed refl

module _ (items : List Item) (kbm : Kbm) (map : List ℤ) (o : is_root kbm.root ≡ true) where
  maybe_beside : (k : PianoKey) → Beside (maybe_pitch_of items kbm map k) (number_beside (maybe_pitch_of items kbm map k))
  maybe_beside k = go (has kbm (table_of kbm.count map) k)
    where
      by : {d : Said ℤ} → degree_of kbm (table_of kbm.count map) k ≡ d → maybe_pitch_of items kbm map k ≡ and_then d (pitch_of items kbm.root)
      by e = ap (λ (s : Said ℤ). and_then s (pitch_of items kbm.root)) e

      go : Has kbm (table_of kbm.count map) k (degree_of kbm (table_of kbm.count map) k) → Beside (maybe_pitch_of items kbm map k) (number_beside (maybe_pitch_of items kbm map k))
      go (Has.outside a e) = along Beside (by e) (Beside.outside refl)
      go (Has.far a b e) = along Beside (by e) (Beside.passed refl)
      go (Has.plain a b c e) = along Beside (by e) (pitch_beside items kbm.root o _)
      go (Has.none a b q r e) = along Beside (by e) (Beside.unmapped refl)
      go (Has.passed a b q z r c e) = along Beside (by e) (Beside.passed refl)
      go (Has.degree a b q z r c e) = along Beside (by e) (pitch_beside items kbm.root o _)

-- each key of a run, by what is stored beside a key: 11 where there is none
pub key_beside : (B : Said Float → ℕ → Type 0) → B (refuses overflow 0) overflow → (f : PianoKey → Said Float) →
    ((k : PianoKey) → B (f k) (number_beside (f k))) → (first : PianoKey) (k : ℕ) →
    B (and_then (key_at first k) f) (number_beside (and_then (key_at first k) f))
unfolding held
key_beside B past f each first k = go (in_i32 (first.0 +ℤ pos k))
  where
    step : Bool → Said Float
    step b = and_then (and_then (pick b (gives (first.0 +ℤ pos k)) (refuses overflow 0)) (λ z. gives (key z))) f

    go : (b : Bool) → B (step b) (number_beside (step b))
    go true = each (key (first.0 +ℤ pos k))
    go false = past

-- ---- an accepted run, of whatever its keys say
module _ (count : ℕ) (t : ItemTable) (kbm : Kbm) (map : List ℤ) (keys hz : ℕ) (numbers : List ℕ)
    (e : run_of count t kbm map keys hz (length numbers) ≡ gives tt) where
  abbrev room : Bool
  room = leb keys hz && leb keys (length numbers)

  abbrev fitting : Said (Unit {0})
  fitting = pick room (gives tt) (refuses no_room 0)

  usable : (is_tuning count t kbm map ≡ true) × (fitting ≡ gives tt)
  usable = pick_given (is_tuning count t kbm map) fitting unusable e

  -- its root can be used
  pub run_root : is_root kbm.root ≡ true
  run_root =
      let rest = (both (is_items count t) (is_root kbm.root && is_table kbm.count map) usable.0).1 in
      (both (is_root kbm.root) (is_table kbm.count map) rest).0

  -- and the number of each key stands beside it
  pub run_number : (f : ℕ → Said Float) (k : ℕ) → k < keys →
      get_or (after_numbers (run_of count t kbm map keys hz (length numbers)) f keys numbers) k 0 ≡ number_beside (f k)
  run_number f k h =
      let fits = (pick_given room (gives tt) no_room usable.1).0 in
      let least : keys ≤ length numbers = leb-true keys (length numbers) (both (leb keys hz) (leb keys (length numbers)) fits).1 in
      ap (λ (s : Said (Unit {0})). get_or (after_numbers s f keys numbers) k 0) e ∙ number_at f keys numbers k h least

-- A RUN THAT IS ACCEPTED stores beside each of its keys 0 where it sounds, else 11, 16, 17 or 18, as the single call says
pub stored-number :
    (count : ℕ) (t : ItemTable) (kbm : Kbm) (map : List ℤ) (first : PianoKey) (keys hz : ℕ) (numbers : List ℕ) → run_of count t kbm map keys hz (length numbers) ≡ gives tt
    → (k : ℕ) → k < keys → Beside (key_pitches (items_in count t) kbm map first k) (get_or (after_numbers (run_of count t kbm map keys hz (length numbers)) (key_pitches (items_in count t) kbm map first) keys numbers) k 0)
stored-number count t kbm map first keys hz numbers e k h =
    let f = key_pitches (items_in count t) kbm map first in
    subst (Beside (f k)) (sym (run_number count t kbm map keys hz numbers e f k h))
    (key_beside Beside (Beside.passed refl) (maybe_pitch_of (items_in count t) kbm map)
    (maybe_beside (items_in count t) kbm map (run_root count t kbm map keys hz numbers e)) first k)
