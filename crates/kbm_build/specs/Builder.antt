-- A mapping built step by step: document 01, "What is taken", 5: "Builder calls act, push for push, as appending to a plain
-- list. A push gives 10 by the readers' limits, then 12; a refused push appends nothing. [..] A build gives 15, then 13".
-- Document 02, W8: "Refuse a mapping whose last key is below its first [..]: 25 [..]; in a builder, detail 0, after 15 and before 13". A
-- state that does not fit its lent table gives 10 first. Assumes nothing.
use Rattle.std.specs.Prelude.{Bool, true, ◌&&◌, ◌≡◌, List, [], ◌∷◌, ◌++◌, ◌⊎◌, ℕ, ◌+◌, ◌≤◌, eqb, leb, ltb, ℤ, pos, length, drop, set, ◌≤ℤ◌, ◌<ℤ◌, Option, Some, None}
use Rattle.std.specs.Int.Signed.{le_z}
use Rattle.base.specs.Numbers.{unusable, no_room, too_large, formal_octave_missing, backwards_range}
use Rattle.base.specs.Said.{Said, gives, refuses, pick, and_then}
use Rattle.key.specs.Keys.{key}
use Rattle.key.specs.declared.PianoKey.{PianoKey}
use Rattle.kbm.specs.Root.{is_root}
use Rattle.kbm.specs.Table.{is_table, table_of, number_of}
use Rattle.kbm.specs.declared.Kbm.{Kbm}
use Rattle.kbm.specs.declared.KbmRoot.{KbmRoot}
use Rattle.kbm_build.specs.declared.KbmBuilder.{KbmBuilder}

-- a builder with nothing pushed: keys 0..127, no formal octave, and the table's room
abbrev pub empty : KbmRoot → List ℤ → KbmBuilder
empty root map = record { root = root; start = key (pos 0); end = key (pos 128); octave = None; room = length map; count = 0 }

-- "A root gives 10 by the pitch limits"
abbrev pub builder_of : KbmRoot → List ℤ → Said KbmBuilder
builder_of root map = pick (is_root root) (gives (empty root map)) (refuses unusable 0)

-- the same builder for keys from start up to, not including, end
abbrev pub with_range : KbmBuilder → PianoKey → PianoKey → KbmBuilder
with_range b start end = record { root = b.root; start = start; end = end; octave = b.octave; room = b.room; count = b.count }

-- the same builder with a formal octave
abbrev pub with_octave : KbmBuilder → ℤ → KbmBuilder
with_octave b octave = record { root = b.root; start = b.start; end = b.end; octave = Some octave; room = b.room; count = b.count }

-- the same builder with one entry more
abbrev pub with_one_more : KbmBuilder → KbmBuilder
with_one_more b = record { root = b.root; start = b.start; end = b.end; octave = b.octave; room = b.room; count = b.count + 1 }

-- the state is one of this table: it knows its room, and its entries have places
abbrev pub fits_table : KbmBuilder → List ℤ → Bool
fits_table b map = eqb b.room (length map) && leb b.count b.room

-- a push: 10 for a state of another table, 12 with no place left
unfoldable pub pushed : KbmBuilder → List ℤ → Said KbmBuilder
pushed b map =
    pick (fits_table b map) (pick (ltb b.count b.room) (gives (with_one_more b)) (refuses no_room 0)) (refuses unusable 0)

-- a number set at a place where a push is accepted; a refusal leaves the table as it was
abbrev pub set_where : Said KbmBuilder → List ℤ → ℕ → ℤ → List ℤ
set_where (gives b) map place number = set map place number
set_where (refuses n detail) map place number = map

-- the table after the push of an entry
abbrev pub after_push : KbmBuilder → List ℤ → (Option ℤ) → List ℤ
after_push b map entry = set_where (pushed b map) map b.count (number_of entry)

-- a builder, and the table it stands beside
pub record Built : Type 0 where
  pub builder : KbmBuilder
  pub table : List ℤ

-- these entries pushed one after the other, up to the first refusal
unfoldable pub pushed_all : KbmBuilder → List ℤ → List (Option ℤ) → Said Built
pushed_all b map [] = gives (record { builder = b; table = map })
pushed_all b map (e ∷ es) = and_then (pushed b map) (λ b'. pushed_all b' (after_push b map e) es)

-- the same builder with so many entries
abbrev pub with_count : KbmBuilder → ℕ → KbmBuilder
with_count b n = record { root = b.root; start = b.start; end = b.end; octave = b.octave; room = b.room; count = n }

-- what a run of accepted pushes leaves: the entries before and those of the run, one count more for each, all other places as they were
pub record Appended (b : KbmBuilder) (map : List ℤ) (es : List (Option ℤ)) (left : Built) : Type 0 where
  pub entries : table_of left.builder.count left.table ≡ table_of b.count map ++ es
  pub counted : left.builder ≡ with_count b (b.count + length es)
  pub others : drop (b.count + length es) left.table ≡ drop (b.count + length es) map
  pub places : length left.table ≡ length map
  pub usable : is_table b.count map ≡ true → is_table left.builder.count left.table ≡ true

-- state, table and root can be used
abbrev pub is_ready : KbmBuilder → List ℤ → Bool
is_ready b map = fits_table b map && (is_table b.count map && is_root b.root)

-- the last key, the one before the end, is below the first: no key is in the range
abbrev pub is_backwards : PianoKey → PianoKey → Bool
is_backwards start end = le_z end.0 start.0

-- 25 for a backwards range, then 13 over 65,535 entries
abbrev pub kbm_with : KbmBuilder → ℤ → Said Kbm
kbm_with b octave =
    pick (is_backwards b.start b.end) (refuses backwards_range 0)
    (pick (leb b.count 65535)
    (gives (record { root = b.root; start = b.start; end = b.end; octave = octave; count = b.count }))
    (refuses too_large 0))

-- 15 for entries and no formal octave; with neither the octave is 0
abbrev pub kbm_of : KbmBuilder → (Option ℤ) → Said Kbm
kbm_of b (Some octave) = kbm_with b octave
kbm_of b None = pick (ltb 0 b.count) (refuses formal_octave_missing 0) (kbm_with b (pos 0))

-- a build: 10, then 15, then 25, then 13
unfoldable pub built : KbmBuilder → List ℤ → Said Kbm
built b map = pick (is_ready b map) (kbm_of b b.octave) (refuses unusable 0)

-- the formal octave that was given, or 0 where there are no entries
abbrev pub OctaveIs : KbmBuilder → ℤ → Type 0
OctaveIs b z = (b.octave ≡ Some z) ⊎ ((b.octave ≡ None) × ((b.count ≡ 0) × (z ≡ pos 0)))

abbrev pub built_mapping : KbmBuilder → ℤ → Kbm
built_mapping b z = record { root = b.root; start = b.start; end = b.end; octave = z; count = b.count }

-- "in a builder, detail 0, after 15 and before 13": neither 10 nor 15 is to be said, and the last key is below the first
pub record BackwardsBuild (b : KbmBuilder) (map : List ℤ) : Type 0 where
  pub ready : is_ready b map ≡ true
  pub octave : (z : ℤ) × OctaveIs b z
  pub range : b.end.0 ≤ℤ b.start.0

-- what an accepted build leaves: a mapping that passes every later test, with the fields that were asked for
pub record Leaves (b : KbmBuilder) (map : List ℤ) (kbm : Kbm) : Type 0 where
  pub table : is_table kbm.count map ≡ true
  pub root : is_root kbm.root ≡ true
  pub small : kbm.count ≤ 65535
  pub forward : kbm.start.0 <ℤ kbm.end.0
  pub octave : OctaveIs b kbm.octave
  pub same : kbm ≡ built_mapping b kbm.octave
