-- Which refusals the pitch calls leave, and that each call has one result. Document 01, "Keys" and "Scales and searches".
-- Assumes nothing.
use mathlib.Core.Path.{◌≡◌, refl, sym, ◌∙◌, ap, subst}
use mathlib.Core.Bool.{Bool, true, false, ◌&&◌}
use mathlib.Core.List.{List}
use Prim.Native.Nat.{ℕ, ◌<◌, zero, suc, ◌≤◌}
use lib.IntN.{ℤ, ◌+ℤ◌, ◌-ℤ◌}
use lib.Signed.{mag}
use mathlib.Core.Logic.{inl, inr}
use native.Mathlib.Nat.{eq-or-lt_of_le}
use native.Mathlib.Omega.{arith}
use lib.Ieee.{Float, nan}
use lib.ListN.{length, get_or}
use lib.Seq.{get_or-set_same, get_or-set_other}
use Rattle.base.specs.Integers.{in_i32, held}
use Rattle.base.specs.Numbers.{overflow}
use Rattle.base.specs.Said.{Said, gives, refuses, pick, and_then, One, outcome}
use Rattle.base.proofs.Said.{one_result, one_said}
use Rattle.key.specs.Keys.{key, steps_between}
use Rattle.key.specs.declared.PianoKey.{PianoKey}
use Rattle.pitch.specs.Answers.{says_pitch}
use Rattle.pitch.proofs.Theorems.{pitch_one}
use Rattle.sorted.specs.Lent.{ListTable, list_in, is_list}
use Rattle.scl.specs.Table.{ItemTable, items_in, is_items}
use Rattle.scl.specs.declared.Item.{Item}
use Rattle.kbm.specs.Degree.{degree_of}
use Rattle.kbm.specs.Keys.{Has}
use Rattle.kbm.specs.Root.{is_root}
use Rattle.kbm.specs.Table.{is_table, table_of}
use Rattle.kbm.specs.declared.Kbm.{Kbm}
use Rattle.kbm.specs.declared.KbmRoot.{KbmRoot}
use Rattle.kbm.proofs.Language.{has}
use Rattle.relative.specs.Scales.{tested, is_scale}
use Rattle.relative.proofs.Theorems.{sorted_refusals, pitch_refusals, sorted_pitch_refusals}
use Rattle.relative.specs.Pitches.{pitch_of, sorted_pitch_of}
use Rattle.relative.specs.RootedRefusals.{Pitched}
use Rattle.tuning.specs.Keys.{key_pitch_of, maybe_pitch_of, maybe_degree_pitch_of}
use Rattle.tuning.specs.Middle.{maybe_pitch_from_middle}
use Rattle.tuning.specs.Refusals.{KeySounds}
use Rattle.tuning.specs.Run.{sounded, sounded_to, number_beside, numbers_to, run_of, after_hz, after_numbers}
use Rattle.tuning.proofs.Run.{sounded_to_length, numbers_to_length}

-- ---- by the degree that a key has
module _ (items : List Item) (root : KbmRoot) (o : is_root root ≡ true) (m : mag root.offset < 2147483648) where
  from_degree : {d : Said ℤ} (z : ℤ) → d ≡ gives z → KeySounds root d (and_then d (pitch_of items root))
  from_degree {d} z e = KeySounds.sounds z e (subst (Pitched root) (sym (ap (λ (s : Said ℤ). and_then s (pitch_of items root)) e)) (pitch_refusals root o m items z))

  no_degree : {d : Said ℤ} {n : ℕ} → d ≡ refuses n 0 → and_then d (pitch_of items root) ≡ refuses n 0
  no_degree e = ap (λ (s : Said ℤ). and_then s (pitch_of items root)) e

  -- a key of a root: 11 exactly where its distance passes 32 bits
  held_sounds : (z : ℤ) → KeySounds root (held z) (and_then (held z) (pitch_of items root))
  unfolding held
  held_sounds z = go (in_i32 z) refl
    where
      go : (b : Bool) → in_i32 z ≡ b → KeySounds root (pick (in_i32 z) (gives z) (refuses overflow 0)) (and_then (pick (in_i32 z) (gives z) (refuses overflow 0)) (pitch_of items root))
      go true e = from_degree z (rw e refl)
      go false e = KeySounds.passed (rw e refl) (no_degree {d = pick (in_i32 z) (gives z) (refuses overflow 0)} (rw e refl))

-- a key of a mapping: "Order: 16, 11 for d, 17, 11"
module _ (items : List Item) (kbm : Kbm) (map : List ℤ) (o : is_root kbm.root ≡ true) (m : mag kbm.root.offset < 2147483648) where
  pub key_sounds : (k : PianoKey) → KeySounds kbm.root (degree_of kbm (table_of kbm.count map) k) (maybe_pitch_of items kbm map k)
  key_sounds k = go (degree_of kbm (table_of kbm.count map) k) refl (has kbm (table_of kbm.count map) k)
    where
      go : (d : Said ℤ) → degree_of kbm (table_of kbm.count map) k ≡ d → Has kbm (table_of kbm.count map) k d → KeySounds kbm.root (degree_of kbm (table_of kbm.count map) k) (maybe_pitch_of items kbm map k)
      go d e (Has.outside a h) = KeySounds.outside (e ∙ h) (no_degree items kbm.root o m (e ∙ h))
      go d e (Has.far a b h) = KeySounds.passed (e ∙ h) (no_degree items kbm.root o m (e ∙ h))
      go d e (Has.plain a b c h) = from_degree items kbm.root o m _ (e ∙ h)
      go d e (Has.none a b q r h) = KeySounds.unmapped (e ∙ h) (no_degree items kbm.root o m (e ∙ h))
      go d e (Has.passed a b q z r c h) = KeySounds.passed (e ∙ h) (no_degree items kbm.root o m (e ∙ h))
      go d e (Has.degree a b q z r c h) = from_degree items kbm.root o m _ (e ∙ h)

-- ---- the calls, where tables and root are usable
module _ (count : ℕ) (t : ItemTable) (it : is_items count t ≡ true) where
  module _ (root : KbmRoot) (o : is_root root ≡ true) (m : mag root.offset < 2147483648) where
    -- a number in 2^-900..2^900, 11 exactly for the root offset -2147483648, or 18
    pub pitch_of_refusals : (d : ℤ) → Pitched root (tested (is_items count t && is_root root) (pitch_of (items_in count t) root d))
    pitch_of_refusals d = rw (it, o) (pitch_refusals root o m (items_in count t) d)

    pub pitch_of_key_refusals : (k : PianoKey) → KeySounds root (steps_between root.reference k) (tested (is_items count t && is_root root) (key_pitch_of (items_in count t) root k))
    pitch_of_key_refusals k = rw (it, o) (held_sounds (items_in count t) root o m (k.0 -ℤ root.reference.0))

    pub sorted_pitch_of_refusals : (l : ListTable) → is_list count l ≡ true → (d : ℤ) → Pitched root (tested (is_scale count t l && is_root root) (sorted_pitch_of (items_in count t) (list_in count l) root d))
    sorted_pitch_of_refusals l li d = rw (it, li, o) (sorted_pitch_refusals root o m (items_in count t) (list_in count l) d (sorted_refusals count t l it li d))

  module _ (kbm : Kbm) (map : List ℤ) (o : is_root kbm.root ≡ true) (m : mag kbm.root.offset < 2147483648) (u : is_table kbm.count map ≡ true) where
    pub maybe_pitch_of_refusals : (k : PianoKey) → KeySounds kbm.root (degree_of kbm (table_of kbm.count map) k) (tested (is_items count t && is_root kbm.root) (tested (is_table kbm.count map) (maybe_pitch_of (items_in count t) kbm map k)))
    maybe_pitch_of_refusals k = rw (it, o, u) (key_sounds (items_in count t) kbm map o m k)

    -- by mapping degree: 11 for the key, then as by key
    pub maybe_pitch_of_degree_refused : (d : ℤ) → in_i32 (kbm.root.reference.0 +ℤ d) ≡ false → tested (is_items count t && is_root kbm.root) (tested (is_table kbm.count map) (maybe_degree_pitch_of (items_in count t) kbm map d)) ≡ refuses overflow 0
    unfolding held
    maybe_pitch_of_degree_refused d e = rw (it, o, u, e) refl

    pub maybe_pitch_of_degree_is : (d : ℤ) → in_i32 (kbm.root.reference.0 +ℤ d) ≡ true → tested (is_items count t && is_root kbm.root) (tested (is_table kbm.count map) (maybe_degree_pitch_of (items_in count t) kbm map d)) ≡ maybe_pitch_of (items_in count t) kbm map (key (kbm.root.reference.0 +ℤ d))
    unfolding held
    maybe_pitch_of_degree_is d e = rw (it, o, u, e) refl

-- ---- two results of one input are equal: the single calls
pub pitch_of_one : (count : ℕ) (t : ItemTable) (root : KbmRoot) (d : ℤ) → One says_pitch (tested (is_items count t && is_root root) (pitch_of (items_in count t) root d))
pitch_of_one count t root d = pitch_one (tested (is_items count t && is_root root) (pitch_of (items_in count t) root d))

pub pitch_of_key_one : (count : ℕ) (t : ItemTable) (root : KbmRoot) (k : PianoKey) → One says_pitch (tested (is_items count t && is_root root) (key_pitch_of (items_in count t) root k))
pitch_of_key_one count t root k = pitch_one (tested (is_items count t && is_root root) (key_pitch_of (items_in count t) root k))

pub sorted_pitch_of_one : (count : ℕ) (t : ItemTable) (l : ListTable) (root : KbmRoot) (d : ℤ) → One says_pitch (tested (is_scale count t l && is_root root) (sorted_pitch_of (items_in count t) (list_in count l) root d))
sorted_pitch_of_one count t l root d = pitch_one (tested (is_scale count t l && is_root root) (sorted_pitch_of (items_in count t) (list_in count l) root d))

pub maybe_pitch_of_one : (count : ℕ) (t : ItemTable) (kbm : Kbm) (map : List ℤ) (k : PianoKey) → One says_pitch (tested (is_items count t && is_root kbm.root) (tested (is_table kbm.count map) (maybe_pitch_of (items_in count t) kbm map k)))
maybe_pitch_of_one count t kbm map k = pitch_one (tested (is_items count t && is_root kbm.root) (tested (is_table kbm.count map) (maybe_pitch_of (items_in count t) kbm map k)))

pub maybe_pitch_of_degree_one : (count : ℕ) (t : ItemTable) (kbm : Kbm) (map : List ℤ) (d : ℤ) → One says_pitch (tested (is_items count t && is_root kbm.root) (tested (is_table kbm.count map) (maybe_degree_pitch_of (items_in count t) kbm map d)))
maybe_pitch_of_degree_one count t kbm map d = pitch_one (tested (is_items count t && is_root kbm.root) (tested (is_table kbm.count map) (maybe_degree_pitch_of (items_in count t) kbm map d)))

pub maybe_pitch_from_middle_one : (count : ℕ) (t : ItemTable) (kbm : Kbm) (map : List ℤ) (k : PianoKey) → One says_pitch
    (tested (is_items count t && is_root kbm.root) (tested (is_table kbm.count map) (maybe_pitch_from_middle (items_in count t) kbm map k)))
maybe_pitch_from_middle_one count t kbm map k =
    pitch_one (tested (is_items count t && is_root kbm.root)
    (tested (is_table kbm.count map) (maybe_pitch_from_middle (items_in count t) kbm map k)))

module _ (count : ℕ) (t : ItemTable) (kbm : Kbm) (map : List ℤ) (keys hz numbers : ℕ) where
  pub pitches_of_one : One outcome (run_of count t kbm map keys hz numbers)
  pitches_of_one = one_said (run_of count t kbm map keys hz numbers)

  pub pitches_of_hz : (f : ℕ → Said Float) (l : List Float) → One (λ r. r) (after_hz (run_of count t kbm map keys hz numbers) f keys l)
  pitches_of_hz f l = one_result (after_hz (run_of count t kbm map keys hz numbers) f keys l)

  pub pitches_of_numbers : (f : ℕ → Said Float) (l : List ℕ) → One (λ r. r) (after_numbers (run_of count t kbm map keys hz numbers) f keys l)
  pitches_of_numbers f l = one_result (after_numbers (run_of count t kbm map keys hz numbers) f keys l)

-- counted from the middle key: the same lines, whatever the keys say
module _ (count : ℕ) (t : ItemTable) (kbm : Kbm) (map : List ℤ) (keys hz numbers : ℕ) where
  pub pitches_from_middle_one : One outcome (run_of count t kbm map keys hz numbers)
  pitches_from_middle_one = pitches_of_one count t kbm map keys hz numbers

  pub pitches_from_middle_hz : (f : ℕ → Said Float) (l : List Float) →
      One (λ r. r) (after_hz (run_of count t kbm map keys hz numbers) f keys l)
  pitches_from_middle_hz f l = pitches_of_hz count t kbm map keys hz numbers f l

  pub pitches_from_middle_numbers : (f : ℕ → Said Float) (l : List ℕ) →
      One (λ r. r) (after_numbers (run_of count t kbm map keys hz numbers) f keys l)
  pitches_from_middle_numbers f l = pitches_of_numbers count t kbm map keys hz numbers f l

-- ---- each key of the run, with f k what the single call says of it (`key_pitches`)
at_most : {k n : ℕ} → k < suc n → k ≤ n
at_most h = omega (arith, h)

-- beside it stands its number
pub number_at : (f : ℕ → Said Float) (n : ℕ) (l : List ℕ) (k : ℕ) → k < n → n ≤ length l → get_or (numbers_to f n l) k 0 ≡ number_beside (f k)
unfolding numbers_to
number_at f zero l k h r = absurd (omega (arith, h))
number_at f (suc n) l k h r = elim (eq-or-lt_of_le (at_most h)) [
  | inl e ↦ rw (e, get_or-set_same (numbers_to f n l) n (number_beside (f n)) 0 (omega (arith, r, numbers_to_length f n l)))
  | inr lt ↦ rw (get_or-set_other (numbers_to f n l) n k (number_beside (f n)) 0 (λ e. omega (arith, e, lt))) (number_at f n l k lt (omega (arith, r)))
]

-- and its place holds what it sounds
abbrev pub heard : Said Float → Float → Float
heard (gives x) old = x
heard (refuses n d) old = old

sounded_here : (s : Said Float) (k : ℕ) (l : List Float) → k < length l → get_or (sounded s k l) k nan ≡ heard s (get_or l k nan)
sounded_here (gives x) k l h = get_or-set_same l k x nan h
sounded_here (refuses n d) k l h = refl

sounded_there : (s : Said Float) (n k : ℕ) (l : List Float) → (k ≡ n → ⊥) → get_or (sounded s n l) k nan ≡ get_or l k nan
sounded_there (gives x) n k l h = get_or-set_other l n k x nan h
sounded_there (refuses m d) n k l h = refl

-- the keys after it leave it
later_leaves : (f : ℕ → Said Float) (n : ℕ) (l : List Float) (k : ℕ) → n ≤ k → get_or (sounded_to f n l) k nan ≡ get_or l k nan
unfolding sounded_to
later_leaves f zero l k h = refl
later_leaves f (suc n) l k h = sounded_there (f n) n k (sounded_to f n l) (λ e. omega (arith, e, h)) ∙ later_leaves f n l k (omega (arith, h))

pub pitch_at_law : (f : ℕ → Said Float) (n : ℕ) (l : List Float) (k : ℕ) → k < n → n ≤ length l → get_or (sounded_to f n l) k nan ≡ heard (f k) (get_or l k nan)
unfolding sounded_to
pitch_at_law f zero l k h r = absurd (omega (arith, h))
pitch_at_law f (suc n) l k h r = elim (eq-or-lt_of_le (at_most h)) [
  | inl e ↦ rw (e, sounded_here (f n) n (sounded_to f n l) (omega (arith, r, sounded_to_length f n l)), later_leaves f n l n (omega arith))
  | inr lt ↦ sounded_there (f n) n k (sounded_to f n l) (λ e. omega (arith, e, lt)) ∙ pitch_at_law f n l k lt (omega (arith, r))
]
