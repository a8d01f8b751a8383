-- Document 01, "Mapping": what the reader computes, by what the lines of the text say. `Language` says what a mapping file is,
-- `proofs/Language` that the two agree. Assumes nothing.
use Rattle.std.specs.Prelude.{List, [], ◌∷◌, ℕ, zero, suc, ◌+◌, ltb, ℤ, pos, ◌-ℤ◌, length, set, None, Some, Option}
use Rattle.std.specs.Float.{binary64}
use Rattle.std.specs.Float.Ieee.{of_bits}
use Rattle.base.specs.Numbers.{line_missing, no_room, too_large, inconsistent_count}
use Rattle.base.specs.Said.{Said, gives, refuses, pick}
use Rattle.base.specs.Tables.{after}
use Rattle.kbm.specs.Table.{unmapped, numbers_of}
use Rattle.kbm.specs.declared.Kbm.{Kbm}
use Rattle.key.specs.Keys.{key}
use Rattle.listing.specs.Reader.{walk_lines, given_after}
use Rattle.text.specs.ReadLine.{said_in}
use Rattle.text.specs.Reading.{Meaning}
use Rattle.kbm_read.specs.Language.{added}
use Rattle.kbm_read.specs.declared.line.Due.{Due}
use Rattle.kbm_read.specs.declared.line.Due.TheVariants as due
use Rattle.kbm_read.specs.declared.line.Head.{Head}
use Rattle.kbm_read.specs.declared.line.State.{State}
pub use Rattle.kbm_read.specs.Steps.{goes_on, take_size, take_first, take_last, take_middle, take_reference, reference_pitch_said, take_pitch, take_octave, is_cross, degree_in, entry_placed, take_entry, take_due, take_meaning, found_entry, found_in}
unfoldable pub use Rattle.kbm_read.specs.Steps.{entry_in, take_token}

-- which required line is missing, counted from 1; 0 for none
abbrev pub which_of : Due → ℕ
which_of due.Size = 1
which_of due.FirstKey = 2
which_of due.LastKey = 3
which_of due.MiddleKey = 4
which_of due.ReferenceKey = 5
which_of due.ReferencePitch = 6
which_of due.Octave = 7
which_of due.Entries = 0

-- the mapping of the required lines
abbrev pub mapping_of : Head → Kbm
mapping_of h =
    record {
      root = record { reference = key h.reference; pitch = record { 0 = h.hz }; offset = h.middle -ℤ h.reference };
      start = key h.first;
      end = key h.end;
      octave = h.octave;
      count = h.size;
    }

-- after the last line: 2; 12 where the added entries have no place; 13; 14
unfoldable pub finished : ℕ → State → Said Kbm
finished room s =
    pick (ltb 0 (which_of s.due)) (refuses line_missing (which_of s.due))
    (pick (ltb room s.head.size) (refuses no_room 0)
    (pick (ltb 65535 s.count) (refuses too_large 0)
    (pick (ltb s.head.size s.count) (refuses inconsistent_count 0)
    (gives (mapping_of s.head)))))

-- before the first line
abbrev pub unread : State
unread = record { due = due.Size; head = record { size = 0; first = pos 0; end = pos 0; middle = pos 0; reference = pos 0; hz = of_bits binary64 0; octave = pos 0 }; count = 0 }

-- the lines from number k on, after what was said
abbrev pub walk : ℕ → ℕ → State → List Meaning → Said Kbm
walk room = walk_lines (take_meaning room) (finished room)

-- THE READER: the mapping that a text is, where the table has so many places; or a refusal
abbrev pub read_of : ℕ → List ℕ → Said Kbm
read_of room text = walk room 1 unread (said_in text)

-- the entry of a line after the required ones, where it is one
abbrev pub listed : (Option (Option ℤ)) → List (Option ℤ)
listed (Some e) = e ∷ []
listed None = []

-- the entries that lines give, after n required ones
abbrev pub given_from : ℕ → List Meaning → List (Option ℤ)
given_from = given_after (λ m t. listed (entry_in t))

abbrev pub given_in : List ℕ → List (Option ℤ)
given_in text = given_from 7 (said_in text)

-- the entries of a mapping of that size: missing ones are added as unmapped
abbrev pub entries_in : ℕ → List ℕ → List (Option ℤ)
entries_in size text = added size (given_in text)

-- THE TABLE after a read: an accepted text's entries in its first places
abbrev pub after_read : List ℕ → List ℤ → List ℤ
after_read text map = after (read_of (length map) text) (λ k. numbers_of (entries_in k.count text)) map

-- the table with so many unmapped entries from place i on
unfoldable pub padded : ℕ → ℕ → List ℤ → List ℤ
padded zero i map = map
padded (suc n) i map = padded n (i + 1) (set map i unmapped)
