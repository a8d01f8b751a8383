-- The laws of a run of keys: the exact number of a key, and the root's pitch computed before the keys. Assumes nothing.
use mathlib.Core.Path.{◌≡◌, refl, ◌∙◌, ap}
use mathlib.Core.Bool.{true, false}
use mathlib.Core.List.{List}
use Prim.Native.Nat.{ℕ, zero, suc, ◌+◌, ◌≤◌, ◌<◌}
use native.Mathlib.Omega.{arith}
use lib.IntN.{ℤ, pos, ◌+ℤ◌}
use lib.Ieee.{Float}
use lib.ListN.{length, length-set, set}
use borrow.Author.Tests.{le-leb, lt-leb}
use mir.Facts.{to_z-of_z}
use mir.Syntax.{w32, w64}
use mir.Val.{SFits, to_z, of_z}
use Rattle.base.proofs.Integers.{mag_add}
use Rattle.base.proofs.Machine.{widened}
use Rattle.base.specs.Numbers.{no_room, unusable}
use Rattle.base.specs.Said.{Said, gives, refuses, and_then}
use Rattle.key.specs.declared.PianoKey.{PianoKey}
use Rattle.kbm.specs.Degree.{degree_of}
use Rattle.kbm.specs.Middle.{counted}
use Rattle.kbm.specs.Table.{table_of}
use Rattle.kbm.specs.declared.Counting.{Counting}
use Rattle.kbm.specs.declared.Kbm.{Kbm}
use Rattle.scl.specs.Table.{ItemTable}
use Rattle.scl.specs.declared.Item.{Item}
use Rattle.relative.specs.Relative.{relative_pitch_of}
use Rattle.relative.specs.Pitches.{root_pitch, above, pitch_from}
use Rattle.tuning.specs.Middle.{sounding_degree}
use Rattle.tuning.specs.Run.{key_at, counted_pitches, root_said, step_said, sounded, number_beside, sounded_to, numbers_to}
use Rattle.tuning.specs.Run.{is_tuning, run_of}

-- ---- 64 bits hold a key and a number of 32 bits above it
module _ {z : ℤ} (f : SFits w32 z) (k : ℕ) (h : k < 4294967296) where
  above_fits : SFits w64 (z +ℤ pos k)
  above_fits = record { sfits = omega (arith, mag_add z (pos k), f.sfits, h) }

  pos_k : to_z w64 k ≡ pos k
  pos_k = to_z-of_z {w = w64} {z = pos k} (record { sfits = omega (arith, h) })

  pub wide_fits : SFits w64 (to_z w64 (of_z w64 (to_z w32 (of_z w32 z))) +ℤ to_z w64 k)
  wide_fits = rw (widened w64 tt f, pos_k) above_fits

-- ---- the root's pitch, computed before the keys
steps_join : {A B C : Type 0} (s : Said A) (f : A → Said B) (g : B → Said C) → and_then (and_then s f) g ≡ and_then s (λ x. and_then (f x) g)
steps_join (gives x) f g = refl
steps_join (refuses n d) f g = refl

same_step : {A B : Type 0} (s : Said A) {f g : A → Said B} → ((x : A) → f x ≡ g x) → and_then s f ≡ and_then s g
same_step (gives x) e = e x
same_step (refuses n d) e = refl

pub root_before : (c : Counting) (items : List Item) (kbm : Kbm) (map : List ℤ) (first : PianoKey) (k : ℕ) →
    step_said items (counted c kbm) map (root_said c items kbm map) first k ≡ counted_pitches c items kbm map first k
unfolding pitch_from
root_before c items kbm map first k =
    same_step (key_at first k) (λ key.
    same_step (degree_of (counted c kbm) (table_of kbm.count map) key) (λ degree.
    steps_join (sounding_degree c kbm (table_of kbm.count map)) (root_pitch items kbm.root.pitch.0)
    (λ hz. above (gives hz) (relative_pitch_of items degree))))

pub keys_same : (c : Counting) (items : List Item) (kbm : Kbm) (map : List ℤ) (first : PianoKey) {root : Said Float} →
    root ≡ root_said c items kbm map → (k : ℕ) → step_said items (counted c kbm) map root first k ≡ counted_pitches c items kbm map first k
keys_same c items kbm map first e k = ap (λ root. step_said items (counted c kbm) map root first k) e ∙ root_before c items kbm map first k

-- ---- the whole run: 10, 12
module _ (count : ℕ) (t : ItemTable) (kbm : Kbm) (map : List ℤ) (keys hz numbers : ℕ) where
  pub run_unusable : is_tuning count t kbm map ≡ false → run_of count t kbm map keys hz numbers ≡ refuses unusable 0
  run_unusable e = rw e

  module _ (e : is_tuning count t kbm map ≡ true) where
    pub run_done : keys ≤ hz → keys ≤ numbers → run_of count t kbm map keys hz numbers ≡ gives tt
    run_done a b = rw (e, le-leb keys hz a, le-leb keys numbers b)

    pub run_short : hz < keys → run_of count t kbm map keys hz numbers ≡ refuses no_room 0
    run_short a = rw (e, lt-leb keys hz a)

    pub numbers_short : keys ≤ hz → numbers < keys → run_of count t kbm map keys hz numbers ≡ refuses no_room 0
    numbers_short a b = rw (e, le-leb keys hz a, lt-leb keys numbers b)

-- ---- the slices
pub sounded_length : (s : Said Float) (k : ℕ) (l : List Float) → length (sounded s k l) ≡ length l
sounded_length (gives x) k l = length-set l k x
sounded_length (refuses n d) k l = refl

pub sounded_to_length : (f : ℕ → Said Float) (n : ℕ) (l : List Float) → length (sounded_to f n l) ≡ length l
unfolding sounded_to
sounded_to_length f zero l = refl
sounded_to_length f (suc n) l = sounded_length (f n) n (sounded_to f n l) ∙ sounded_to_length f n l

pub numbers_to_length : (f : ℕ → Said Float) (n : ℕ) (l : List ℕ) → length (numbers_to f n l) ≡ length l
unfolding numbers_to
numbers_to_length f zero l = refl
numbers_to_length f (suc n) l = length-set (numbers_to f n l) n (number_beside (f n)) ∙ numbers_to_length f n l

plus_one : (k : ℕ) → k + 1 ≡ suc k
plus_one k = omega arith

-- a turn: what a key says goes to its place
module _ (f : ℕ → Said Float) (k : ℕ) {s : Said Float} (e : s ≡ f k) where
  pub hz_turn : {before after : List Float} (l : List Float) → before ≡ sounded_to f k l → after ≡ sounded s k before → after ≡ sounded_to f (k + 1) l
  unfolding sounded_to
  hz_turn l p q = q ∙ rw (e, p, plus_one k)

  pub numbers_turn : {before after : List ℕ} (l : List ℕ) → before ≡ numbers_to f k l → after ≡ set before k (number_beside s) → after ≡ numbers_to f (k + 1) l
  unfolding numbers_to
  numbers_turn l p q = q ∙ rw (e, p, plus_one k)

-- the same keys, the same slices
pub sounded_same : (f g : ℕ → Said Float) → ((k : ℕ) → f k ≡ g k) → (n : ℕ) (l : List Float) → sounded_to f n l ≡ sounded_to g n l
unfolding sounded_to
sounded_same f g e zero l = refl
sounded_same f g e (suc n) l = rw (e n, sounded_same f g e n l)

pub numbers_same : (f g : ℕ → Said Float) → ((k : ℕ) → f k ≡ g k) → (n : ℕ) (l : List ℕ) → numbers_to f n l ≡ numbers_to g n l
unfolding numbers_to
numbers_same f g e zero l = refl
numbers_same f g e (suc n) l = rw (e n, numbers_same f g e n l)
