-- A RUN OF BUILDER CALLS, in any order and refused ones too, and the plain list beside it: document 01, "What is taken", 5: "Builder
-- calls act, push for push, as appending to a plain list. [..] a refused push appends nothing". Assumes nothing.
use Rattle.std.specs.Prelude.{◌≡◌, true, List, [], ◌∷◌, ◌++◌, ℕ, leb, ltb, ℤ, pos, length, drop, Option, Some, None}
use Rattle.base.specs.Numbers.{no_room, too_large, formal_octave_missing, backwards_range}
use Rattle.base.specs.Said.{Said, gives, refuses, pick}
use Rattle.key.specs.Keys.{key}
use Rattle.key.specs.declared.PianoKey.{PianoKey}
use Rattle.kbm.specs.Table.{IsI16, is_table, table_of}
use Rattle.kbm.specs.declared.Kbm.{Kbm}
use Rattle.kbm.specs.declared.KbmRoot.{KbmRoot}
use Rattle.kbm_build.specs.Builder.{with_range, with_octave, pushed, after_push, Built, is_backwards, built}
use Rattle.kbm_build.specs.declared.KbmBuilder.{KbmBuilder}

-- a call on a builder: `range`, `formal_octave`, or the push of an entry, mapped or not
pub data Call : Type 0 where
  range : PianoKey → PianoKey → Call
  octave : ℤ → Call
  push : (Option ℤ) → Call

-- each degree pushed is a number of 16 bits, as the call's type has it
abbrev pub OfTypes : List Call → Type 0
OfTypes [] = Unit {0}
OfTypes (Call.range start end ∷ cs) = OfTypes cs
OfTypes (Call.octave z ∷ cs) = OfTypes cs
OfTypes (Call.push e ∷ cs) = IsI16 e × OfTypes cs

-- ---- the builder
abbrev pub beside : KbmBuilder → List ℤ → Built
beside b map = record { builder = b; table = map }

-- the builder that a push leaves: the old one where it is refused
abbrev pub builder_after : KbmBuilder → Said KbmBuilder → KbmBuilder
builder_after old (gives b) = b
builder_after old (refuses n detail) = old

-- one call, whether it is accepted or refused
abbrev pub after_call : Built → Call → Built
after_call s (Call.range start end) = beside (with_range s.builder start end) s.table
after_call s (Call.octave z) = beside (with_octave s.builder z) s.table
after_call s (Call.push e) = beside (builder_after s.builder (pushed s.builder s.table)) (after_push s.builder s.table e)

-- these calls one after the other
unfoldable pub after_calls : Built → List Call → Built
after_calls s [] = s
after_calls s (c ∷ cs) = after_calls (after_call s c) cs

-- ---- the plain list
-- what was asked for, with a plain list of entries
pub record Plain : Type 0 where
  pub root : KbmRoot
  pub start : PianoKey
  pub end : PianoKey
  pub octave : (Option ℤ)
  pub entries : List (Option ℤ)

-- before the first call: keys 0..127, no formal octave, no entries
abbrev pub fresh : KbmRoot → Plain
fresh root = record { root = root; start = key (pos 0); end = key (pos 128); octave = None; entries = [] }

-- one entry more
abbrev pub appended : Plain → (Option ℤ) → Plain
appended p e = record { root = p.root; start = p.start; end = p.end; octave = p.octave; entries = p.entries ++ (e ∷ []) }

-- a call: a push appends its entry, and nothing where so many places are taken
abbrev pub plain_call : ℕ → Plain → Call → Plain
plain_call room p (Call.range start end) = record { root = p.root; start = start; end = end; octave = p.octave; entries = p.entries }
plain_call room p (Call.octave z) = record { root = p.root; start = p.start; end = p.end; octave = Some z; entries = p.entries }
plain_call room p (Call.push e) = pick (ltb (length p.entries) room) (appended p e) p

unfoldable pub plain_calls : ℕ → Plain → List Call → Plain
plain_calls room p [] = p
plain_calls room p (c ∷ cs) = plain_calls room (plain_call room p c) cs

-- the entries of all pushes
unfoldable pub entries_pushed : List Call → List (Option ℤ)
entries_pushed [] = []
entries_pushed (Call.range start end ∷ cs) = entries_pushed cs
entries_pushed (Call.octave z ∷ cs) = entries_pushed cs
entries_pushed (Call.push e ∷ cs) = e ∷ entries_pushed cs

-- the mapping of a plain list: 15 for entries and no formal octave, 25 for a backwards range, 13 over 65,535 entries; with neither
-- entries nor formal octave the octave is 0
abbrev pub plain_with : Plain → ℤ → Said Kbm
plain_with p z =
    pick (is_backwards p.start p.end) (refuses backwards_range 0)
    (pick (leb (length p.entries) 65535)
    (gives (record { root = p.root; start = p.start; end = p.end; octave = z; count = length p.entries }))
    (refuses too_large 0))

abbrev pub plain_built : Plain → (Option ℤ) → Said Kbm
plain_built p (Some z) = plain_with p z
plain_built p None = pick (ltb 0 (length p.entries)) (refuses formal_octave_missing 0) (plain_with p (pos 0))

-- ---- both
-- the builder of a plain list, of a table of so many places
abbrev pub builder_for : ℕ → Plain → KbmBuilder
builder_for room p = record { root = p.root; start = p.start; end = p.end; octave = p.octave; room = room; count = length p.entries }

-- THE BUILDER ACTS AS THE PLAIN LIST: of the lent table `map` the first places hold its entries and the others are as they were; the
-- next push says the builder with one entry more, or 12 exactly where no place is left; and a build says the plain list's mapping
pub record Acts (map : List ℤ) (p : Plain) (s : Built) : Type 0 where
  pub builder : s.builder ≡ builder_for (length map) p
  pub entries : table_of (length p.entries) s.table ≡ p.entries
  pub others : drop (length p.entries) s.table ≡ drop (length p.entries) map
  pub places : length s.table ≡ length map
  pub usable : is_table (length p.entries) s.table ≡ true
  pub next : (e : (Option ℤ)) → pushed s.builder s.table ≡ pick (ltb (length p.entries) (length map)) (gives (builder_for (length map) (appended p e))) (refuses no_room 0)
  pub mapping : built s.builder s.table ≡ plain_built p p.octave
