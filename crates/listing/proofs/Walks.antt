-- How a format is read, and the walk over the lines in the format's terms: by what is still required, what was said, and the entries
-- so far. Assumes nothing.
use mathlib.Core.Path.{◌≡◌, refl, ◌∙◌, ap}
use mathlib.Core.List.{List, [], ◌∷◌, ◌++◌}
use Prim.Native.Nat.{ℕ, ◌+◌, ◌-◌}
use lib.Dec.{leb}
use lib.ListN.{length}
use Rattle.base.specs.Numbers.{not_utf8, line_missing, no_room}
use Rattle.base.specs.Said.{Said, gives, refuses, pick, and_then}
use Rattle.text.specs.Reading.{Meaning, invalid, blank, comment, content}
use Rattle.listing.specs.Listing.{Format, Values, seen_from}

-- what a line's word is read as, and that this is what the format says of it; `Head` holds what the required lines said
pub record Reads (F : Format) : Type 1 where
  pub Head : Type 0
  pub put : (f : F.Required) → Head → F.Value f → Head
  pub seen : Head → F.Seen
  pub seen_put : (f : F.Required) (h : Head) (v : F.Value f) → seen (put f h v) ≡ F.see f (seen h) v
  pub read_as : (f : F.Required) → Head → ℕ → F.Word → Said (F.Value f)
  pub entry_as : ℕ → F.Word → Said F.Entry
  pub read_gives : (f : F.Required) (h : Head) (k : ℕ) (w : F.Word) (v : F.Value f) → read_as f h k w ≡ gives v → F.Gives f (seen h) w v
  pub gives_read : (f : F.Required) (h : Head) (k : ℕ) (w : F.Word) (v : F.Value f) → F.Gives f (seen h) w v → read_as f h k w ≡ gives v
  pub read_wrong : (f : F.Required) (h : Head) (k : ℕ) (w : F.Word) (n d : ℕ) → read_as f h k w ≡ refuses n d → (d ≡ k) × F.Wrong f (seen h) w n
  pub wrong_read : (f : F.Required) (h : Head) (k : ℕ) (w : F.Word) (n : ℕ) → F.Wrong f (seen h) w n → read_as f h k w ≡ refuses n k
  pub entry_is : (k : ℕ) (w : F.Word) (e : F.Entry) → entry_as k w ≡ gives e → F.Is w e
  pub is_entry : (k : ℕ) (w : F.Word) (e : F.Entry) → F.Is w e → entry_as k w ≡ gives e
  pub entry_bad : (k : ℕ) (w : F.Word) (n d : ℕ) → entry_as k w ≡ refuses n d → (d ≡ k) × F.Bad w n
  pub bad_entry : (k : ℕ) (w : F.Word) (n : ℕ) → F.Bad w n → entry_as k w ≡ refuses n k

-- what is still required, what was said, and the entries that were given
pub record Place (F : Format) (R : Reads F) : Type 0 where
  pub fields : List F.Required
  pub head : R.Head
  pub es : List F.Entry

-- what was said, with the values of required lines
abbrev pub head_from : (F : Format) (R : Reads F) (fs : List F.Required) → R.Head → Values F fs → R.Head
head_from F R [] h vs = h
head_from F R (f ∷ fs) h vs = head_from F R fs (R.put f h vs.0) vs.1

-- what is seen of it is what the format sees
pub seen_from_law : (F : Format) (R : Reads F) (fs : List F.Required) (h : R.Head) (vs : Values F fs) → R.seen (head_from F R fs h vs) ≡ seen_from F (R.seen h) fs vs
seen_from_law F R [] h vs = refl
seen_from_law F R (f ∷ fs) h vs = seen_from_law F R fs (R.put f h vs.0) vs.1 ∙ ap (λ (s : F.Seen). seen_from F s fs vs.1) (R.seen_put f h vs.0)

-- an entry takes a place: 12 where there is none
abbrev pub placed : (F : Format) (R : Reads F) → ℕ → ℕ → R.Head → List F.Entry → F.Entry → Said (Place F R)
placed F R room k h es e = pick (leb room (length es)) (refuses no_room k) (gives (record { fields = []; head = h; es = es ++ e ∷ [] }))

-- a word at a place
abbrev pub word_on : (F : Format) (R : Reads F) → ℕ → ℕ → F.Word → R.Head → List F.Entry → List F.Required → Said (Place F R)
word_on F R room k w h es [] = and_then (R.entry_as k w) (placed F R room k h es)
word_on F R room k w h es (f ∷ fs) = and_then (R.read_as f h k w) (λ v. gives (record { fields = fs; head = R.put f h v; es = es }))

-- a line at a place
abbrev pub step_on : (F : Format) (R : Reads F) → ℕ → ℕ → Meaning → Place F R → Said (Place F R)
step_on F R room k invalid p = refuses not_utf8 k
step_on F R room k blank p = gives p
step_on F R room k comment p = gives p
step_on F R room k (content m t) p = word_on F R room k (F.word m t) p.head p.es p.fields

-- the end of the text at a place: `finish` has its say where nothing is required
abbrev pub end_on : (F : Format) (R : Reads F) {X : Type 0} → (R.Head → List F.Entry → Said X) → R.Head → List F.Entry → List F.Required → Said X
end_on F R finish h es [] = finish h es
end_on F R finish h es (f ∷ fs) = refuses line_missing (length F.required + 1 - length (f ∷ fs))

-- the lines from number k on
unfoldable pub walk_on : (F : Format) (R : Reads F) {X : Type 0} → (R.Head → List F.Entry → Said X) → ℕ → ℕ → Place F R → List Meaning → Said X
walk_on F R finish room k p [] = end_on F R finish p.head p.es p.fields
walk_on F R finish room k p (m ∷ ms) = and_then (step_on F R room k m p) (λ q. walk_on F R finish room (k + 1) q ms)
