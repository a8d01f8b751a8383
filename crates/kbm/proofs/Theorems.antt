-- What the calls on a mapping come to, and that each has one result. Document 01, "Keys" and "What is taken", 5.
-- Assumes nothing.
use Rattle.std.specs.Prelude.{Option}
use mathlib.Core.Path.{◌≡◌, sym, ◌∙◌}
use mathlib.Core.Logic.{◌↔◌, ◌⊎◌}
use mathlib.Core.Bool.{true, false}
use mathlib.Core.List.{List}
use Prim.Native.Nat.{ℕ}
use lib.IntN.{ℤ}
use Rattle.base.specs.Integers.{in_i32}
use Rattle.base.specs.Numbers.{unusable, overflow}
use Rattle.base.specs.Said.{Said, refuses, One, outcome}
use Rattle.base.proofs.Said.{one_result, one_said, one_read}
use Rattle.key.specs.declared.PianoKey.{PianoKey}
use Rattle.pitch.specs.declared.Pitch.{Pitch}
use Rattle.kbm.specs.Answers.{says_degree}
use Rattle.kbm.specs.Degree.{degree_of, scale_degree_of}
use Rattle.kbm.specs.Keys.{in_keys, distance, Has, Lacks, Gap, Passes}
use Rattle.kbm.specs.Middle.{scale_degree_from_middle, reference_degree, counted}
use Rattle.kbm.specs.Root.{root_of, is_root}
use Rattle.kbm.specs.Table.{number_of, is_table, table_of}
use Rattle.kbm.specs.declared.Counting.{Counting}
use Rattle.kbm.specs.declared.Kbm.{Kbm}
use Rattle.kbm.specs.declared.KbmRoot.{KbmRoot}
use Rattle.kbm.proofs.Language.{has, has_one, lacks, overflows}

-- ---- the degree of a key
module _ (kbm : Kbm) (map : List ℤ) (key : PianoKey) where
  -- "Before all else a call on lent tables gives 10 unless the count fits them, items are usable"
  pub table_refused : is_table kbm.count map ≡ false → scale_degree_of kbm map key ≡ refuses unusable 0
  unfolding scale_degree_of
  table_refused t = rw t

  module _ (t : is_table kbm.count map ≡ true) where
    pub table_used : scale_degree_of kbm map key ≡ degree_of kbm (table_of kbm.count map) key
    unfolding scale_degree_of
    table_used = rw t

    -- the answer is what 01 says the key has, and nothing else is
    pub key_has : (s : Said ℤ) → (scale_degree_of kbm map key ≡ s) ↔ Has kbm (table_of kbm.count map) key s
    key_has s = (
      (λ e. rw (sym e ∙ table_used) (has kbm (table_of kbm.count map) key)),
      (λ h. table_used ∙ sym (has_one kbm (table_of kbm.count map) key h)),
    )

    -- a key lacks a degree exactly when it is outside the range, or the table has entries and the one reached by counting round from
    -- the reference key is unmapped
    pub key_lacks : Lacks (scale_degree_of kbm map key) ↔ ((in_keys kbm key ≡ false) ⊎ Gap kbm (table_of kbm.count map) key)
    key_lacks = rw table_used (lacks kbm (table_of kbm.count map) key)

    -- in the range, 11 exactly when the distance or the degree passes 32 bits
    pub key_overflows : in_keys kbm key ≡ true → (scale_degree_of kbm map key ≡ refuses overflow 0) ↔ ((in_i32 (distance kbm key) ≡ false) ⊎ Passes kbm (table_of kbm.count map) key)
    key_overflows w = rw table_used (overflows kbm (table_of kbm.count map) key w)

pub degree_one : (s : Said ℤ) → One says_degree s
degree_one = one_read (λ d. d.0) (λ a b e i. record { 0 = e i })

pub kbm_one : (s : Said Kbm) → One outcome s
kbm_one = one_said

pub root_new_one : (k : PianoKey) (p : Pitch) (offset : ℤ) → One outcome (root_of k p offset)
root_new_one k p offset = one_said (root_of k p offset)

pub is_root_one : (root : KbmRoot) → One (λ r. r) (is_root root)
is_root_one root = one_result (is_root root)

pub is_table_one : (map : List ℤ) (count : ℕ) → One (λ r. r) (is_table count map)
is_table_one map count = one_result (is_table count map)

pub number_of_one : (e : (Option ℤ)) → One (λ r. r) (number_of e)
number_of_one e = one_result (number_of e)

pub scale_degree_of_one : (kbm : Kbm) (map : List ℤ) (key : PianoKey) → One says_degree (scale_degree_of kbm map key)
scale_degree_of_one kbm map key = degree_one (scale_degree_of kbm map key)

pub scale_degree_from_middle_one : (kbm : Kbm) (map : List ℤ) (key : PianoKey) → One says_degree (scale_degree_from_middle kbm map key)
scale_degree_from_middle_one kbm map key = degree_one (scale_degree_from_middle kbm map key)

pub degree_in_one : (c : Counting) (kbm : Kbm) (map : List ℤ) (key : PianoKey) →
    One says_degree (degree_of (counted c kbm) (table_of kbm.count map) key)
degree_in_one c kbm map key = degree_one (degree_of (counted c kbm) (table_of kbm.count map) key)

pub reference_degree_in_one : (kbm : Kbm) (map : List ℤ) → One says_degree (reference_degree kbm (table_of kbm.count map))
reference_degree_in_one kbm map = degree_one (reference_degree kbm (table_of kbm.count map))
