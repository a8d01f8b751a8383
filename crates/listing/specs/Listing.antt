-- LISTINGS: texts with required lines, each of one kind of value, and then entries to the end. Both file formats of document 01 are
-- such; what is said here once is what a good text is and what its earliest fault is. No reader is named here. Assumes nothing.
use Rattle.std.specs.Prelude.{◌≡◌, List, [], ◌∷◌, ◌++◌, ◌⊎◌, ℕ, ◌+◌, ◌≤◌, length}
use Rattle.base.specs.Numbers.{not_utf8, line_missing, no_room}
use Rattle.text.specs.Reading.{Meaning, invalid, blank, comment, content}

-- A FORMAT: which lines are required, in their order; what a line with content gives (of its trimmed part and its token); what later
-- required lines look back at; which values and which entries that can be, and the first number of 01's order that it draws else
pub record Format : Type 1 where
  pub Word : Type 0
  pub word : List ℕ → List ℕ → Word
  pub Required : Type 0
  pub required : List Required
  pub Value : Required → Type 0
  pub Seen : Type 0
  pub unseen : Seen
  pub see : (f : Required) → Seen → Value f → Seen
  pub Gives : (f : Required) → Seen → Word → Value f → Type 0
  pub Wrong : Required → Seen → Word → ℕ → Type 0
  pub Entry : Type 0
  pub Is : Word → Entry → Type 0
  pub Bad : Word → ℕ → Type 0

-- a value for each of these lines
abbrev pub Values : (F : Format) → List F.Required → Type 0
Values F [] = Unit {0}
Values F (f ∷ fs) = F.Value f × Values F fs

-- what is seen after these values
abbrev pub seen_from : (F : Format) → F.Seen → (fs : List F.Required) → Values F fs → F.Seen
seen_from F s [] vs = s
seen_from F s (f ∷ fs) vs = seen_from F (F.see f s vs.0) fs vs.1

-- after what was seen, the words give these lines these values
abbrev pub GiveAll : (F : Format) → F.Seen → (fs : List F.Required) → List F.Word → Values F fs → Type 0
GiveAll F s [] [] vs = Unit {0}
GiveAll F s [] (w ∷ ws) vs = ⊥
GiveAll F s (f ∷ fs) [] vs = ⊥
GiveAll F s (f ∷ fs) (w ∷ ws) vs = F.Gives f s w vs.0 × GiveAll F (F.see f s vs.0) fs ws vs.1

-- the words are these entries
abbrev pub Entries : (F : Format) → List F.Word → List F.Entry → Type 0
Entries F [] [] = Unit {0}
Entries F [] (e ∷ es) = ⊥
Entries F (w ∷ ws) [] = ⊥
Entries F (w ∷ ws) (e ∷ es) = F.Is w e × Entries F ws es

-- each line is a text; blank lines and comments drop out, and these are the words of the others
abbrev pub Words : (F : Format) → List Meaning → List F.Word → Type 0
Words F [] [] = Unit {0}
Words F [] (w ∷ ws) = ⊥
Words F (invalid ∷ ms) ws = ⊥
Words F (blank ∷ ms) ws = Words F ms ws
Words F (comment ∷ ms) ws = Words F ms ws
Words F (content m t ∷ ms) [] = ⊥
Words F (content m t ∷ ms) (w ∷ ws) = (w ≡ F.word m t) × Words F ms ws

-- lines that give the required lines `done` their values, and then entries
pub record Begins (F : Format) (ms : List Meaning) (done : List F.Required) (vs : Values F done) (es : List F.Entry) : Type 0 where
  pub first : List F.Word
  pub rest : List F.Word
  pub words : Words F ms (first ++ rest)
  pub values : GiveAll F F.unseen done first vs
  pub entries : Entries F rest es

-- n is the first number that a line draws in place of the required line f, after what was seen: 1, then by its word
abbrev pub WrongLine : (F : Format) → F.Required → F.Seen → Meaning → ℕ → Type 0
WrongLine F f s invalid n = n ≡ not_utf8
WrongLine F f s blank n = ⊥
WrongLine F f s comment n = ⊥
WrongLine F f s (content m t) n = F.Wrong f s (F.word m t) n

-- the same of a line after entries es, where there is room for so many: 1, by its word, 12
abbrev pub WrongEntry : (F : Format) → ℕ → List F.Entry → Meaning → ℕ → Type 0
WrongEntry F room es invalid n = n ≡ not_utf8
WrongEntry F room es blank n = ⊥
WrongEntry F room es comment n = ⊥
WrongEntry F room es (content m t) n = F.Bad (F.word m t) n ⊎ ((n ≡ no_room) × (length es ≡ room) × (e : F.Entry) × F.Is (F.word m t) e)

-- THE EARLIEST FAULT of lines: the lines before it are good, with room for each entry, and it draws the number n with detail d. `End`
-- says what is drawn after the last line
pub data Fault (F : Format) (End : Values F F.required → List F.Entry → ℕ → Type 0) (room : ℕ) (ms : List Meaning) (n d : ℕ) : Type 0 where
  -- a required line, or what stands in its place
  at_required : (before : List Meaning) (line : Meaning) (after : List Meaning) → ms ≡ before ++ line ∷ after → d ≡ length before + 1 →
      (done : List F.Required) (f : F.Required) (more : List F.Required) → F.required ≡ done ++ f ∷ more → (vs : Values F done) → Begins F before done vs [] →
      WrongLine F f (seen_from F F.unseen done vs) line n → Fault F End room ms n d
  -- a line after the required ones
  at_entry : (before : List Meaning) (line : Meaning) (after : List Meaning) → ms ≡ before ++ line ∷ after → d ≡ length before + 1 →
      (vs : Values F F.required) (es : List F.Entry) → Begins F before F.required vs es → length es ≤ room → WrongEntry F room es line n → Fault F End room ms n d
  -- a required line is missing
  missing : n ≡ line_missing → (done : List F.Required) (f : F.Required) (more : List F.Required) → F.required ≡ done ++ f ∷ more → d ≡ length done + 1 →
      (vs : Values F done) → Begins F ms done vs [] → Fault F End room ms n d
  -- after the last line
  at_end : d ≡ 0 → (vs : Values F F.required) (es : List F.Entry) → Begins F ms F.required vs es → length es ≤ room → End vs es n → Fault F End room ms n d
