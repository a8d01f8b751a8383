-- A mapping that is built holds the plain list of what was pushed: from a new builder, through any run of pushes, to the build.
-- Assumes nothing.
use Rattle.std.specs.Prelude.{Option, Some}
use mathlib.Core.Path.{◌≡◌, refl, sym, ◌∙◌, ap}
use mathlib.Core.Bool.{true, false}
use mathlib.Core.List.{List, []}
use Prim.Native.Nat.{◌+◌, ◌≤◌}
use native.Mathlib.Omega.{arith}
use lib.IntN.{ℤ}
use lib.ListN.{length}
use borrow.Author.Tests.{le-leb}
use Rattle.base.specs.Said.{gives}
use Rattle.kbm_build.specs.Builder.{builder_of, with_octave, fits_table, Built, pushed_all, Appended, is_backwards, built, built_mapping, empty}
use Rattle.kbm.specs.Root.{is_root}
use Rattle.kbm.specs.Table.{AreI16, are_entries, entries_of, is_table, table_of}
use Rattle.kbm.specs.declared.KbmRoot.{KbmRoot}
use Rattle.kbm_build.specs.declared.KbmBuilder.{KbmBuilder}
use Rattle.kbm_build.proofs.Appends.{run_appends}
use Rattle.kbm_build.proofs.Pushes.{fitting}

module _ (root : KbmRoot) (map : List ℤ) where
  pub new_is_empty : is_root root ≡ true → builder_of root map ≡ gives (empty root map)
  new_is_empty h = rw h

  pub empty_fits : fits_table (empty root map) map ≡ true
  empty_fits = fitting (empty root map) map refl (omega arith)

  pub empty_usable : is_table 0 map ≡ true
  unfolding are_entries
  empty_usable = rw (le-leb 0 (length map) (omega arith))

  pub empty_entries : table_of 0 map ≡ []
  unfolding entries_of
  empty_entries = refl

-- a build where nothing is at fault
built_gives : (b : KbmBuilder) (map : List ℤ) (z : ℤ) → fits_table b map ≡ true → is_table b.count map ≡ true → is_root b.root ≡ true →
    is_backwards b.start b.end ≡ false → b.count ≤ 65535 → b.octave ≡ Some z → built b map ≡ gives (built_mapping b z)
unfolding built
built_gives b map z f t r w n o = rw (f, t, r, o, w, le-leb b.count 65535 n)

module _ (root : KbmRoot) (map : List ℤ) (es : List (Option ℤ)) (octave : ℤ) (r : is_root root ≡ true) (i : AreI16 es) (room : length es ≤ length map) (small : length es ≤ 65535) where
  pub run : (left : Built) × ((pushed_all (empty root map) map es ≡ gives left) × Appended (empty root map) map es left)
  run = run_appends es (empty root map) map (empty_fits root map) i (omega (arith, room))

  -- what was pushed one by one, and given a formal octave, is built, and its table holds the plain list
  pub built_is_plain : (left : Built) → Appended (empty root map) map es left →
      (built (with_octave left.builder octave) left.table ≡ gives (built_mapping left.builder octave)) × (table_of left.builder.count left.table ≡ es)
  built_is_plain left a =
      let whole : left.builder.count ≡ 0 + length es = ap (λ b. b.count) a.counted in
      let count : left.builder.count ≡ length es = omega (arith, whole) in
      let places : left.builder.room ≡ length left.table = ap (λ b. b.room) a.counted ∙ sym a.places in
      let fits = fitting (with_octave left.builder octave) left.table places (omega (arith, count, places, a.places, room)) in
      let rooted : is_root left.builder.root ≡ true = ap (λ b. is_root b.root) a.counted ∙ r in
      let forward : is_backwards left.builder.start left.builder.end ≡ false = ap (λ b. is_backwards b.start b.end) a.counted in (
        built_gives (with_octave left.builder octave) left.table octave fits (a.usable (empty_usable root map)) rooted forward (omega (arith, count, small)) refl,
        a.entries ∙ (rw (empty_entries root map)),
      )
