-- What a build leaves, and that each call of the builder has one result. Document 01, "What is taken", 5. Assumes nothing.
use Rattle.std.specs.Prelude.{Some, None, Option}
use mathlib.Core.Path.{◌≡◌, refl}
use mathlib.Core.Logic.{inl, inr}
use mathlib.Core.Bool.{Bool, true, false, ◌&&◌}
use mathlib.Core.List.{List}
use Prim.Native.Nat.{ℕ}
use native.Mathlib.Omega.{arith}
use lib.Dec.{leb, ltb}
use lib.IntN.{ℤ, pos}
use borrow.Author.Tests.{leb-true, ltb-false}
use Rattle.base.specs.Numbers.{unusable, too_large, backwards_range}
use Rattle.base.specs.Said.{Said, gives, refuses, pick, One, outcome}
use Rattle.base.proofs.Order.{below}
use Rattle.base.proofs.Said.{one_result, one_said}
use Rattle.key.specs.declared.PianoKey.{PianoKey}
use Rattle.kbm.specs.Root.{is_root}
use Rattle.kbm.specs.Table.{is_table}
use Rattle.kbm.specs.declared.Kbm.{Kbm}
use Rattle.kbm.specs.declared.KbmRoot.{KbmRoot}
use Rattle.kbm.proofs.Entries.{and_both}
use Rattle.kbm.proofs.Theorems.{kbm_one}
use Rattle.kbm_build.specs.Builder.{builder_of, with_range, with_octave, fits_table, pushed, after_push, is_ready, is_backwards, kbm_with, kbm_of, built, OctaveIs, built_mapping, Leaves}
use Rattle.kbm_build.specs.declared.KbmBuilder.{KbmBuilder}

-- ---- what a build leaves
no_mapping : {n d : ℕ} {kbm : Kbm} → refuses n d ≡ gives kbm → ⊥
no_mapping e = let no : ◌≡◌ {A = ℕ} 0 1 = cc in omega arith

with_leaves : (b : KbmBuilder) (map : List ℤ) (z : ℤ) (kbm : Kbm) → is_ready b map ≡ true → OctaveIs b z → kbm_with b z ≡ gives kbm → Leaves b map kbm
with_leaves b map z kbm r o = go (is_backwards b.start b.end) refl (leb b.count 65535) refl
  where
    go : (back : Bool) → is_backwards b.start b.end ≡ back → (t : Bool) → leb b.count 65535 ≡ t →
        pick back (refuses backwards_range 0) (pick t (gives (built_mapping b z)) (refuses too_large 0)) ≡ gives kbm → Leaves b map kbm
    go true f t h e = absurd (no_mapping e)
    go false f false h e = absurd (no_mapping e)
    go false f true h e =
        let tests = (and_both (fits_table b map) (is_table b.count map && is_root b.root) r).1 in
        let parts = and_both (is_table b.count map) (is_root b.root) tests in
        let is : built_mapping b z ≡ kbm = cc in
        rw (← is) (record {
          table = parts.0;
          root = parts.1;
          small = leb-true b.count 65535 h;
          forward = below f;
          octave = o;
          same = refl;
        })

octave_leaves : (b : KbmBuilder) (map : List ℤ) (kbm : Kbm) → is_ready b map ≡ true → (o : (Option ℤ)) → b.octave ≡ o → kbm_of b o ≡ gives kbm → Leaves b map kbm
octave_leaves b map kbm r (Some z) o e = with_leaves b map z kbm r (inl o) e
octave_leaves b map kbm r None o e = go (ltb 0 b.count) refl e
  where
    go : (t : Bool) → ltb 0 b.count ≡ t → pick t (refuses 15 0) (kbm_with b (pos 0)) ≡ gives kbm → Leaves b map kbm
    go true t e = absurd (no_mapping e)
    go false t e = with_leaves b map (pos 0) kbm r (inr (o, (omega (arith, ltb-false 0 b.count t), refl))) e

-- an accepted build leaves a mapping that passes every later test, with the fields that were asked for
pub build_leaves : (b : KbmBuilder) (map : List ℤ) (kbm : Kbm) → built b map ≡ gives kbm → Leaves b map kbm
unfolding built
build_leaves b map kbm e = go (is_ready b map) refl e
  where
    go : (t : Bool) → is_ready b map ≡ t → pick t (kbm_of b b.octave) (refuses unusable 0) ≡ gives kbm → Leaves b map kbm
    go true r e = octave_leaves b map kbm r b.octave refl e
    go false r e = absurd (no_mapping e)

pub builder_one : (s : Said KbmBuilder) → One outcome s
builder_one = one_said

pub builder_new_one : (root : KbmRoot) (map : List ℤ) → One outcome (builder_of root map)
builder_new_one root map = builder_one (builder_of root map)

pub range_one : (b : KbmBuilder) (start end : PianoKey) → One (λ r. r) (with_range b start end)
range_one b start end = one_result (with_range b start end)

pub formal_octave_one : (b : KbmBuilder) (octave : ℤ) → One (λ r. r) (with_octave b octave)
formal_octave_one b octave = one_result (with_octave b octave)

-- a push, and the table it leaves
pub push_mapped_key_one : (b : KbmBuilder) (map : List ℤ) (degree : ℤ) → One outcome (pushed b map) × One (λ r. r) (after_push b map (Some degree))
push_mapped_key_one b map degree = (builder_one (pushed b map), one_result (after_push b map (Some degree)))

pub push_unmapped_key_one : (b : KbmBuilder) (map : List ℤ) → One outcome (pushed b map) × One (λ r. r) (after_push b map None)
push_unmapped_key_one b map = (builder_one (pushed b map), one_result (after_push b map None))

pub build_one : (b : KbmBuilder) (map : List ℤ) → One outcome (built b map)
build_one b map = kbm_one (built b map)
