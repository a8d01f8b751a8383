-- C READS OR BUILDS A MAPPING, AND ASKS FOR THE DEGREE OF ITS FIRST KEY: after a result 0 of telbijan_read_kbm or telbijan_build_kbm that
-- key is in the range, and telbijan_scale_degree_of does not say 16 of it, nor does telbijan_scale_degree_from_middle: a range is the same
-- in both countings. Document 02, W1 and W8. Assumes nothing.
use mathlib.Core.Path.{◌≡◌, refl, sym, ◌∙◌, ap, subst}
use mathlib.Core.Bool.{true, true≢false}
use mathlib.Core.List.{List}
use Prim.Native.Nat.{ℕ}
use native.Mathlib.Omega.{arith}
use lib.IntN.{ℤ}
use lib.Ieee.Bits.{is_true}
use lib.Signed.{◌<ℤ◌, lt_z, ≤ℤ_refl}
use Rattle.base.specs.Numbers.{key_out_of_range}
use Rattle.base.specs.Said.{Said}
use Rattle.base.proofs.Order.{passed}
use Rattle.kbm.specs.Degree.{scale_degree_of}
use Rattle.kbm.specs.Keys.{in_keys, Has}
use Rattle.kbm.specs.Middle.{at_middle}
use Rattle.kbm.specs.Table.{is_table, table_of}
use Rattle.kbm.specs.declared.Kbm.{Kbm}
use Rattle.kbm.proofs.Theorems.{key_has}
use Rattle.kbm_build.specs.Builder.{with_count, built, built_mapping}
use Rattle.kbm_build.specs.declared.KbmBuilder.{KbmBuilder}
use Rattle.kbm_build.proofs.Theorems.{build_leaves}
use Rattle.kbm_read.proofs.Forward.{forward}
use Rattle.telbijan_answers.specs.Interface.{result, kept, field_of, number_in}
use Rattle.telbijan_answers.proofs.Interface.{zero_accepted}
use Rattle.telbijan_mappings.specs.Calls.{ReadKbm, BuildKbm, ScaleDegreeOf, ScaleDegreeFromMiddle}
use Rattle.telbijan_mappings.proofs.Numbers.{build_kbm_coded}
use Rattle.telbijan_mappings.proofs.Readings.{accepted_call}

-- the first key is inside
first_inside : (k : Kbm) → k.start.0 <ℤ k.end.0 → in_keys k k.start ≡ true
first_inside k h = rw (passed (≤ℤ_refl k.start.0), is_true (lt_z k.start.0 k.end.0) h.lt)

-- and 16 is not said of a key inside
module _ (k : Kbm) (map : List ℤ) (t : is_table k.count map ≡ true) (forth : k.start.0 <ℤ k.end.0) where
  not_outside : (q : ℕ) (s : Said ℤ) → Has k (table_of k.count map) k.start s → q ≡ result s → number_in q ≡ key_out_of_range → ⊥
  not_outside q s (Has.outside w e) r n = true≢false (sym (first_inside k forth) ∙ w)
  not_outside q s (Has.far w f e) r n = omega (arith, n, r ∙ ap result e)
  not_outside q s (Has.plain w f z e) r n = omega (arith, n, r ∙ ap result e)
  not_outside q s (Has.none w f a b e) r n = omega (arith, n, r ∙ ap result e)
  not_outside q s (Has.passed w f a z b p e) r n = omega (arith, n, r ∙ ap result e)
  not_outside q s (Has.degree w f a z b p e) r n = omega (arith, n, r ∙ ap result e)

  first_asked : (before : ℤ) (q : ℕ) (degree : ℤ) → ScaleDegreeOf map k k.start.0 before q degree → number_in q ≡ key_out_of_range → ⊥
  first_asked before q degree asked =
      let s = scale_degree_of k map k.start in
      not_outside q s ((key_has k map k.start t s).0 refl) asked.0

-- AFTER A READ
module _ (text : List ℕ) (table : List ℤ) (old : Kbm) (r : ℕ) (left : List ℤ) (new : Kbm) (read : ReadKbm text table old r left new)
    (zero : r ≡ 0) (before : ℤ) (q : ℕ) (degree : ℤ) where
  pub read_first_key : ScaleDegreeOf left new new.start.0 before q degree → number_in q ≡ key_out_of_range → ⊥
  read_first_key =
      let a = accepted_call text table old r left new read zero in
      first_asked new left a.4 (forward a.1) before q degree

  pub read_first_key_from_middle : ScaleDegreeFromMiddle left new new.start.0 before q degree → number_in q ≡ key_out_of_range → ⊥
  read_first_key_from_middle =
      let a = accepted_call text table old r left new read zero in
      first_asked (at_middle new) left a.4 (forward a.1) before q degree

-- AFTER A BUILD: root and range as they were given, count and octave as the build stored them
module _ (map : List ℤ) (b : KbmBuilder) (size : ℕ) (formal : ℤ) (r entries : ℕ) (octave : ℤ)
    (call : BuildKbm map b size formal r entries octave) (zero : r ≡ 0) where
  abbrev stored : Kbm
  stored = built_mapping (with_count b entries) octave

  -- its table can be used, and its start is below its end
  usable : (is_table stored.count map ≡ true) × (stored.start.0 <ℤ stored.end.0)
  usable =
      let (k, e) = (zero_accepted (built b map) (build_kbm_coded b map)).0 (sym call.0 ∙ zero) in
      let l = build_leaves b map k e in
      let counted : k.count ≡ entries = sym (call.1 ∙ ap (λ (s : Said Kbm). kept (field_of (λ x. x.count) s) size) e) in
      let formally : k.octave ≡ octave = sym (call.2 ∙ ap (λ (s : Said Kbm). kept (field_of (λ x. x.octave) s) formal) e) in
      let pushed : b.count ≡ entries = sym (ap (λ (x : Kbm). x.count) l.same) ∙ counted in
      let same : k ≡ stored = l.same ∙ (λ i. built_mapping (with_count b (pushed i)) (formally i)) in
      (subst (λ (n : ℕ). is_table n map ≡ true) counted l.table, subst (λ (x : Kbm). x.start.0 <ℤ x.end.0) same l.forward)

  module _ (before : ℤ) (q : ℕ) (degree : ℤ) where
    pub built_first_key : ScaleDegreeOf map (built_mapping (with_count b entries) octave) b.start.0 before q degree →
        number_in q ≡ key_out_of_range → ⊥
    built_first_key = first_asked stored map usable.0 usable.1 before q degree

    pub built_first_key_from_middle : ScaleDegreeFromMiddle map (built_mapping (with_count b entries) octave) b.start.0 before q degree →
        number_in q ≡ key_out_of_range → ⊥
    built_first_key_from_middle = first_asked (at_middle stored) map usable.0 usable.1 before q degree
