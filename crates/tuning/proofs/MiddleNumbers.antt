-- What the pitch calls that count from the middle key say: a value, one of document 01's numbers, or 19. Assumes nothing.
use Rattle.std.specs.Prelude.{Option}
use mathlib.Core.Path.{◌≡◌, refl, sym, subst}
use mathlib.Core.Bool.{◌&&◌}
use mathlib.Core.List.{List}
use Prim.Native.Nat.{ℕ, ◌≤◌, ◌<◌}
use native.Mathlib.Omega.{arith}
use lib.IntN.{ℤ}
use lib.Ieee.{Float}
use lib.ListN.{length, get_or}
use Rattle.base.specs.Numbers.{reference_unmapped}
use Rattle.base.specs.Said.{Said, Numbered, NumberedOr, gives, refuses}
use Rattle.base.proofs.Said.{or_pick, or_then}
use Rattle.key.specs.declared.PianoKey.{PianoKey}
use Rattle.scl.specs.Table.{ItemTable, items_in, is_items}
use Rattle.scl.specs.declared.Item.{Item}
use Rattle.kbm.specs.Middle.{at_middle, reference_degree}
use Rattle.kbm.specs.ReferenceKey.{ReferenceHas}
use Rattle.kbm.specs.Root.{is_root}
use Rattle.kbm.specs.Table.{is_table, table_of}
use Rattle.kbm.specs.declared.Kbm.{Kbm}
use Rattle.kbm.proofs.Middle.{reference_has}
use Rattle.relative.specs.Scales.{tested}
use Rattle.relative.proofs.Numbers.{from_numbered}
use Rattle.tuning.specs.Beside.{Beside, BesideFromMiddle}
use Rattle.tuning.specs.Middle.{maybe_pitch_from_middle}
use Rattle.tuning.specs.MiddleRefusals.{KeySoundsFromMiddle}
use Rattle.tuning.specs.Run.{key_pitches_from_middle, number_beside, run_of, after_numbers}
use Rattle.tuning.proofs.Middle.{key_sounds_from_middle}
use Rattle.tuning.proofs.Numbers.{degree_numbered, along, reached_beside, key_beside, run_root, run_number}

-- ---- the reference key's degree
-- a number of 01's, and 10
small : {A : Type 0} {n d : ℕ} → 1 ≤ n → n ≤ 18 → NumberedOr {A = A} reference_unmapped (refuses n d)
small low high = NumberedOr.known (Numbered.number low high)

reference_numbered : {kbm : Kbm} {es : List (Option ℤ)} {s : Said ℤ} → ReferenceHas kbm es s → NumberedOr reference_unmapped s
reference_numbered (ReferenceHas.far n e) = subst (NumberedOr reference_unmapped) (sym e) (small (omega arith) (omega arith))
reference_numbered (ReferenceHas.plain n l e) = subst (NumberedOr reference_unmapped) (sym e) (NumberedOr.known (Numbered.value _))
reference_numbered (ReferenceHas.none n q r e) = subst (NumberedOr reference_unmapped) (sym e) NumberedOr.other
reference_numbered (ReferenceHas.passed n q z r c e) = subst (NumberedOr reference_unmapped) (sym e) (small (omega arith) (omega arith))
reference_numbered (ReferenceHas.degree n q z r c e) = subst (NumberedOr reference_unmapped) (sym e) (NumberedOr.known (Numbered.value _))

-- ---- the pitch of a key
from_middle_numbered : (items : List Item) (kbm : Kbm) (map : List ℤ) (k : PianoKey) →
    NumberedOr reference_unmapped (maybe_pitch_from_middle items kbm map k)
from_middle_numbered items kbm map k =
    let es = table_of kbm.count map in
    or_then (NumberedOr.known (degree_numbered (at_middle kbm) es k)) (λ degree.
    or_then (reference_numbered ((reference_has kbm es (reference_degree kbm es)).0 refl)) (λ root.
    NumberedOr.known (from_numbered items kbm.root.pitch.0 root degree)))

pub maybe_pitch_from_middle_numbered : (count : ℕ) (t : ItemTable) (kbm : Kbm) (map : List ℤ) (k : PianoKey) → NumberedOr reference_unmapped
    (tested (is_items count t && is_root kbm.root) (tested (is_table kbm.count map) (maybe_pitch_from_middle (items_in count t) kbm map k)))
maybe_pitch_from_middle_numbered count t kbm map k =
    or_pick (is_items count t && is_root kbm.root)
    (or_pick (is_table kbm.count map) (from_middle_numbered (items_in count t) kbm map k) (small (omega arith) (omega arith)))
    (small (omega arith) (omega arith))

-- ---- beside each key of a run
sounds_beside : {items : List Item} {kbm : Kbm} {es : List (Option ℤ)} {k : PianoKey} {s : Said Float} →
    KeySoundsFromMiddle items kbm es k s → BesideFromMiddle s (number_beside s)
sounds_beside (KeySoundsFromMiddle.outside h e) = along BesideFromMiddle e (BesideFromMiddle.known (Beside.outside refl))
sounds_beside (KeySoundsFromMiddle.passed h e) = along BesideFromMiddle e (BesideFromMiddle.known (Beside.passed refl))
sounds_beside (KeySoundsFromMiddle.unmapped h e) = along BesideFromMiddle e (BesideFromMiddle.known (Beside.unmapped refl))
sounds_beside (KeySoundsFromMiddle.reference_passed d h r e) = along BesideFromMiddle e (BesideFromMiddle.known (Beside.passed refl))
sounds_beside (KeySoundsFromMiddle.reference_none d h r e) = along BesideFromMiddle e (BesideFromMiddle.reference refl)
sounds_beside (KeySoundsFromMiddle.sounds d root h r e w) = BesideFromMiddle.known (reached_beside w)

-- A RUN THAT IS ACCEPTED stores beside each of its keys 0 where it sounds, else 11, 16, 17, 18 or 19, as the single call says
pub stored_from_middle : (count : ℕ) (t : ItemTable) (kbm : Kbm) (map : List ℤ) (first : PianoKey) (keys hz : ℕ) (numbers : List ℕ) →
    run_of count t kbm map keys hz (length numbers) ≡ gives tt → (k : ℕ) → k < keys →
    BesideFromMiddle (key_pitches_from_middle (items_in count t) kbm map first k)
    (get_or (after_numbers (run_of count t kbm map keys hz (length numbers)) (key_pitches_from_middle (items_in count t) kbm map first) keys
    numbers) k 0)
stored_from_middle count t kbm map first keys hz numbers e k h =
    let items = items_in count t in
    let o = run_root count t kbm map keys hz numbers e in
    let single : PianoKey → Said Float = maybe_pitch_from_middle items kbm map in
    let each : (x : PianoKey) → BesideFromMiddle (single x) (number_beside (single x)) =
    λ x. sounds_beside ((key_sounds_from_middle items kbm map x o (single x)).0 refl) in
    subst (BesideFromMiddle (key_pitches_from_middle items kbm map first k))
    (sym (run_number count t kbm map keys hz numbers e (key_pitches_from_middle items kbm map first) k h))
    (key_beside BesideFromMiddle (BesideFromMiddle.known (Beside.passed refl)) (maybe_pitch_from_middle items kbm map) each first k)
