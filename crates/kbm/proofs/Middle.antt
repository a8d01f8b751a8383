-- COUNTING FROM THE MIDDLE KEY, by the calls: each answers what document 02, W1, says of the key, and nothing else. Assumes nothing.
use Rattle.std.specs.Prelude.{Option}
use mathlib.Core.Path.{◌≡◌, refl, sym, ◌∙◌, ap, subst}
use mathlib.Core.Logic.{◌↔◌, ◌⊎◌}
use mathlib.Core.Bool.{Bool, true, false, true≢false}
use mathlib.Core.List.{List, [], ◌∷◌}
use Prim.Native.Nat.{ℕ}
use native.Mathlib.Omega.{arith}
use lib.IntN.{ℤ, pos, ◌+ℤ◌, ◌-ℤ◌, +ℤ_idr, +ℤ_invr, +ℤ-neg_ℤ_cancel, zero-*ℤ}
use lib.ListN.{length}
use lib.Signed.{≤ℤ_refl}
use Rattle.base.specs.Integers.{Divides, in_i32, held}
use Rattle.base.specs.Numbers.{overflow, reference_unmapped}
use Rattle.base.specs.Said.{Said, gives, refuses}
use Rattle.base.proofs.Order.{passed, below_end}
use Rattle.base.proofs.Said.{no_value, same_refuses}
use Rattle.key.specs.Keys.{key}
use Rattle.key.specs.declared.PianoKey.{PianoKey}
use Rattle.kbm.specs.Degree.{degree_at, degree_of, scale_degree_of}
use Rattle.kbm.specs.Keys.{in_keys, distance, Has, Lacks, Gap, Passes}
use Rattle.kbm.specs.Middle.{middle_of, at_middle, scale_degree_from_middle, StartsAtZero, of_reference, reference_degree}
use Rattle.kbm.specs.ReferenceKey.{ReferenceHas}
use Rattle.kbm.specs.Table.{is_table, table_of}
use Rattle.kbm.specs.declared.Kbm.{Kbm}
use Rattle.kbm.proofs.Degrees.{degree_by}
use Rattle.kbm.proofs.Language.{has, has_one}
use Rattle.kbm.proofs.Theorems.{key_has, key_lacks, key_overflows, table_refused}

-- ---- what `at_middle` changes, so that no reader has to trust it: the key that is counted from, and nothing else
module _ (kbm : Kbm) (k : PianoKey) where
  pub middle_range : in_keys (at_middle kbm) k ≡ in_keys kbm k
  middle_range = refl

  pub middle_distance : distance (at_middle kbm) k ≡ k.0 -ℤ (kbm.root.reference.0 +ℤ kbm.root.offset)
  middle_distance = refl

  pub middle_octave : (at_middle kbm).octave ≡ kbm.octave
  middle_octave = refl

-- where middle and reference key are one, the two countings are
module _ (kbm : Kbm) (o : kbm.root.offset ≡ pos 0) where
  one_key : middle_of kbm.root ≡ kbm.root.reference.0
  one_key = rw o (+ℤ_idr kbm.root.reference.0)

  -- and a key has the same degree in both
  pub same_degree : (map : List ℤ) (k : PianoKey) → scale_degree_from_middle kbm map k ≡ scale_degree_of kbm map k
  unfolding scale_degree_of
  same_degree map k = rw one_key

  -- the reference key has degree 0 where the first entry is 0, or there is none
  pub reference_zero : (es : List (Option ℤ)) → StartsAtZero es → reference_degree kbm es ≡ gives (pos 0)
  unfolding degree_at held
  reference_zero [] z = rw (one_key, +ℤ_invr kbm.root.reference.0)
  reference_zero (e ∷ es) z =
      let by : Divides (pos 0) (length (e ∷ es)) (pos 0) 0 = record { whole = ap pos (omega arith); rest = omega arith } in
      rw (one_key, +ℤ_invr kbm.root.reference.0, degree_by kbm.octave (e ∷ es) by, z, zero-*ℤ kbm.octave)

-- ---- the degree of a key
module _ (kbm : Kbm) (map : List ℤ) (k : PianoKey) where
  module _ (t : is_table kbm.count map ≡ true) where
    -- the answer is what the key has, counted from the middle key, and nothing else is
    pub middle_has : (s : Said ℤ) → (scale_degree_from_middle kbm map k ≡ s) ↔ Has (at_middle kbm) (table_of kbm.count map) k s
    middle_has s = key_has (at_middle kbm) map k t s

    -- "demand 3's key statement reads 'from the middle key'": a key lacks a degree exactly when it is outside the range, or its distance
    -- is a number of 32 bits, the table has entries and the one reached by counting round from the middle key is unmapped
    pub middle_lacks : Lacks (scale_degree_from_middle kbm map k) ↔ ((in_keys kbm k ≡ false) ⊎ Gap (at_middle kbm) (table_of kbm.count map) k)
    middle_lacks = key_lacks (at_middle kbm) map k t

    -- in the range, 11 exactly when the distance or the degree passes 32 bits
    pub middle_overflows : in_keys kbm k ≡ true → (scale_degree_from_middle kbm map k ≡ refuses overflow 0) ↔
        ((in_i32 (distance (at_middle kbm) k) ≡ false) ⊎ Passes (at_middle kbm) (table_of kbm.count map) k)
    middle_overflows w = key_overflows (at_middle kbm) map k t w

  -- "19 [..] never for a degree"
  not_nineteen : {es : List (Option ℤ)} {s : Said ℤ} {d : ℕ} → Has (at_middle kbm) es k s → s ≡ refuses reference_unmapped d → ⊥
  not_nineteen (Has.outside w p) e = omega (arith, (same_refuses (sym p ∙ e)).0)
  not_nineteen (Has.far w n p) e = omega (arith, (same_refuses (sym p ∙ e)).0)
  not_nineteen (Has.plain w n l p) e = no_value (sym e ∙ p)
  not_nineteen (Has.none w n q r p) e = omega (arith, (same_refuses (sym p ∙ e)).0)
  not_nineteen (Has.passed w n q z r h p) e = omega (arith, (same_refuses (sym p ∙ e)).0)
  not_nineteen (Has.degree w n q z r h p) e = no_value (sym e ∙ p)

  pub never_nineteen : (d : ℕ) → scale_degree_from_middle kbm map k ≡ refuses reference_unmapped d → ⊥
  never_nineteen d e = go (is_table kbm.count map) refl
    where
      go : (b : Bool) → is_table kbm.count map ≡ b → ⊥
      go true t = not_nineteen ((middle_has t (scale_degree_from_middle kbm map k)).0 refl) e
      go false t = omega (arith, (same_refuses (sym (table_refused (at_middle kbm) map k t) ∙ e)).0)

-- ---- the reference key
module _ (kbm : Kbm) (es : List (Option ℤ)) where
  abbrev reference : PianoKey
  reference = kbm.root.reference

  -- the mapping counted from the middle key, with the reference key alone in its range
  abbrev alone : Kbm
  alone =
      record {
        root = (at_middle kbm).root;
        start = reference;
        end = key (reference.0 +ℤ pos 1);
        octave = kbm.octave;
        count = kbm.count;
      }

  inside : in_keys alone reference ≡ true
  inside = rw (passed (≤ℤ_refl reference.0)) (below_end reference.0 (reference.0 +ℤ pos 1)
      ∙ rw (+ℤ-neg_ℤ_cancel reference.0 (pos 1)) (passed (≤ℤ_refl reference.0)))

  -- its degree there is its own
  own : reference_degree kbm es ≡ of_reference (degree_of alone es reference)
  own = rw inside

  there : {s : Said ℤ} → Has alone es reference s → ReferenceHas kbm es (of_reference s)
  there (Has.outside w p) = absurd (true≢false (sym inside ∙ w))
  there (Has.far w n p) = ReferenceHas.far n (ap of_reference p)
  there (Has.plain w n l p) = ReferenceHas.plain n l (ap of_reference p)
  there (Has.none w n q r p) = ReferenceHas.none n q r (ap of_reference p)
  there (Has.passed w n q e r h p) = ReferenceHas.passed n q e r h (ap of_reference p)
  there (Has.degree w n q e r h p) = ReferenceHas.degree n q e r h (ap of_reference p)

  -- s is what comes of t
  by : {s t : Said ℤ} → Has alone es reference t → s ≡ of_reference t → reference_degree kbm es ≡ s
  by h p = own ∙ ap of_reference (sym (has_one alone es reference h)) ∙ sym p

  back : {s : Said ℤ} → ReferenceHas kbm es s → reference_degree kbm es ≡ s
  back (ReferenceHas.far n p) = by (Has.far inside n refl) p
  back (ReferenceHas.plain n l p) = by (Has.plain inside n l refl) p
  back (ReferenceHas.none n q r p) = by (Has.none inside n q r refl) p
  back (ReferenceHas.passed n q e r h p) = by (Has.passed inside n q e r h refl) p
  back (ReferenceHas.degree n q e r h p) = by (Has.degree inside n q e r h refl) p

  -- what is said of the reference key is what it has, and nothing else is
  pub reference_has : (s : Said ℤ) → (reference_degree kbm es ≡ s) ↔ ReferenceHas kbm es s
  reference_has s = ((λ e. subst (ReferenceHas kbm es) (sym own ∙ e) (there (has alone es reference))), back)
