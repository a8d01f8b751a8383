-- What a reader of a listing computes, line by line, whatever its state is: a first pass that stops at the first refusal, and a second
-- that collects the entries. Assumes nothing.
use Rattle.std.specs.Prelude.{List, [], ◌∷◌, ◌++◌, ℕ, zero, suc, ◌+◌}
use Rattle.base.specs.Said.{Said, and_then}
use Rattle.text.specs.Reading.{Meaning, invalid, blank, comment, content}

-- the lines from number k on, after what was said: `take` takes a line, and `finish` has the last word
unfoldable pub walk_lines : {S X : Type 0} → (ℕ → Meaning → S → Said S) → (S → Said X) → ℕ → S → List Meaning → Said X
walk_lines take finish k s [] = finish s
walk_lines take finish k s (m ∷ ms) = and_then (take k m s) (λ s'. walk_lines take finish (k + 1) s' ms)

-- what the lines with content give, after the first n of them
unfoldable pub given_after : {E : Type 0} → (List ℕ → List ℕ → List E) → ℕ → List Meaning → List E
given_after give n [] = []
given_after give n (invalid ∷ ms) = given_after give n ms
given_after give n (blank ∷ ms) = given_after give n ms
given_after give n (comment ∷ ms) = given_after give n ms
given_after give zero (content m t ∷ ms) = give m t ++ given_after give zero ms
given_after give (suc n) (content m t ∷ ms) = given_after give n ms
