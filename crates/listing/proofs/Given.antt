-- The walk of a reader is the format's walk, where each step is; a turn of it; and the entries that it collects are those of the format.
-- Assumes nothing.
use mathlib.Core.Path.{◌≡◌, refl, sym, ◌∙◌, ap}
use mathlib.Core.List.{List, [], ◌∷◌, ◌++◌}
use Prim.Native.Nat.{ℕ, zero, suc, ◌+◌}
use lib.ListN.{length}
use Rattle.base.specs.Said.{Said, gives, refuses, and_then}
use Rattle.text.specs.Reading.{Meaning, invalid, blank, comment, content}
use Rattle.listing.specs.Listing.{Format, Values, GiveAll, Entries, Words, Begins}
use Rattle.listing.specs.Reader.{walk_lines, given_after}
use Rattle.listing.proofs.Walks.{Reads, Place, step_on, end_on, walk_on}

-- A TURN: r is what a call answered, r' what a match made of it
module _ {S X : Type 0} (take : ℕ → Meaning → S → Said S) (finish : S → Said X) (k : ℕ) (s : S) {ms : List Meaning} where
  pub walk_end : ms ≡ [] → walk_lines take finish k s ms ≡ finish s
  unfolding walk_lines
  walk_end e = rw e

  pub walk_turn : {T : Type 0} (says : T → Said S) {m : Meaning} {rest : List Meaning} → ms ≡ m ∷ rest → {r r' : T} → says r ≡ take k m s → r ≡ r' →
      walk_lines take finish k s ms ≡ and_then (says r') (λ s'. walk_lines take finish (k + 1) s' rest)
  unfolding walk_lines
  walk_turn says e p q = rw (e, ← p, q)

-- two answers are alike: values that stand to each other, or one refusal
pub data Alike {A B : Type 0} (Stands : A → B → Type 0) : Said A → Said B → Type 0 where
  values : (a : A) (b : B) → Stands a b → Alike Stands (gives a) (gives b)
  refusals : (n d : ℕ) → Alike Stands (refuses n d) (refuses n d)

-- THE SAME WALK, where a reader's state stands to a place
module _ (F : Format) (R : Reads F) {S X : Type 0} (take : ℕ → Meaning → S → Said S) (done : S → Said X) (finish : R.Head → List F.Entry → Said X) (room : ℕ)
    (Stands : S → Place F R → Type 0) (steps : (k : ℕ) (m : Meaning) (s : S) (p : Place F R) → Stands s p → Alike Stands (take k m s) (step_on F R room k m p))
    (ends : (s : S) (p : Place F R) → Stands s p → done s ≡ end_on F R finish p.head p.es p.fields) where
  pub same_walk : (k : ℕ) (s : S) (p : Place F R) (ms : List Meaning) → Stands s p → walk_lines take done k s ms ≡ walk_on F R finish room k p ms
  unfolding walk_lines walk_on
  same_walk k s p [] t = ends s p t
  same_walk k s p (m ∷ ms) t = go (take k m s) (step_on F R room k m p) (steps k m s p t) (λ s' p'. same_walk (k + 1) s' p' ms)
    where
      go : (x : Said S) (y : Said (Place F R)) → Alike Stands x y →
          ((s' : S) (p' : Place F R) → Stands s' p' → walk_lines take done (k + 1) s' ms ≡ walk_on F R finish room (k + 1) p' ms) →
          and_then x (λ s'. walk_lines take done (k + 1) s' ms) ≡ and_then y (λ q. walk_on F R finish room (k + 1) q ms)
      go x y (Alike.values a b u) ih = ih a b u
      go x y (Alike.refusals n d) ih = refl

-- a word for each of the required lines
pub values_length : (F : Format) (s : F.Seen) (fs : List F.Required) (ws : List F.Word) (vs : Values F fs) → GiveAll F s fs ws vs → length ws ≡ length fs
values_length F s [] [] vs g = refl
values_length F s [] (w ∷ ws) vs g = absurd g
values_length F s (f ∷ fs) [] vs g = absurd g
values_length F s (f ∷ fs) (w ∷ ws) vs g = ap suc (values_length F (F.see f s vs.0) fs ws vs.1 g.1)

-- THE ENTRIES that a second pass collects are those of good lines
module _ (F : Format) (give : List ℕ → List ℕ → List F.Entry) (is : (m t : List ℕ) (e : F.Entry) → F.Is (F.word m t) e → give m t ≡ e ∷ []) where
  given_is : (ms : List Meaning) (first rest : List F.Word) (es : List F.Entry) → Words F ms (first ++ rest) → Entries F rest es → given_after give (length first) ms ≡ es
  unfolding given_after
  given_is [] [] [] [] t e = refl
  given_is [] [] [] (x ∷ es) t e = absurd e
  given_is [] [] (u ∷ rest) es t e = absurd t
  given_is [] (u ∷ first) rest es t e = absurd t
  given_is (invalid ∷ ms) first rest es t e = absurd t
  given_is (blank ∷ ms) first rest es t e = given_is ms first rest es t e
  given_is (comment ∷ ms) first rest es t e = given_is ms first rest es t e
  given_is (content m k ∷ ms) (u ∷ first) rest es t e = given_is ms first rest es t.1 e
  given_is (content m k ∷ ms) [] [] es t e = absurd t
  given_is (content m k ∷ ms) [] (u ∷ rest) [] t e = absurd e
  given_is (content m k ∷ ms) [] (u ∷ rest) (x ∷ es) t e =
      rw (is m k x (rw t.0 at e.0)) (ap (λ (l : List F.Entry). x ∷ l) (given_is ms [] rest es t.1 e.1))

  pub given_entries : {ms : List Meaning} {vs : Values F F.required} {es : List F.Entry} → Begins F ms F.required vs es → given_after give (length F.required) ms ≡ es
  given_entries {ms} {vs} {es} b = ap (λ n. given_after give n ms) (sym (values_length F F.unseen F.required b.first vs b.values)) ∙ given_is ms b.first b.rest es b.words b.entries
