-- FORWARD (document 02, W8): a mapping file's first key is in its range; and "demand 3's language shrinks by these texts": it is the
-- language but for this rule, without exactly those whose last key is below their first, which are refused by 25. Assumes nothing.
use Rattle.std.specs.Prelude.{Option}
use mathlib.Core.Path.{◌≡◌, refl, sym, subst}
use mathlib.Core.Bool.{Bool, true, false}
use mathlib.Core.List.{List, [], ◌∷◌, ◌++◌}
use mathlib.Core.Logic.{◌↔◌}
use Prim.Native.Nat.{ℕ, ◌+◌}
use lib.IntN.{ℤ, pos, ◌+ℤ◌, +ℤ-neg_ℤ_cancel}
use lib.ListN.{length}
use lib.Signed.{le_z, ◌≤ℤ◌, ◌<ℤ◌, clash_ℤ}
use Rattle.base.specs.Said.{gives}
use Rattle.base.proofs.Order.{at_most, below, before_end, end_after}
use Rattle.kbm.specs.declared.Kbm.{Kbm}
use Rattle.listing.specs.Listing as listing
use Rattle.listing.proofs.Parted.{word_at}
use Rattle.kbm_read.specs.Backwards.{BackwardsText, unordered, UnorderedText}
use Rattle.kbm_read.specs.Language.{required, unseen, Values, GiveAll, mapping, MappingText}
use Rattle.kbm_read.specs.Reader.{read_of}
use Rattle.kbm_read.proofs.Language.{accepted}

-- ---- the end is the key after the last
module _ {first last : ℤ} where
  after_last : first ≤ℤ last → first <ℤ (last +ℤ pos 1)
  after_last h = end_after (subst (λ (z : ℤ). first ≤ℤ z) (sym (+ℤ-neg_ℤ_cancel last (pos 1))) h)

  to_last : first <ℤ (last +ℤ pos 1) → first ≤ℤ last
  to_last h = subst (λ (z : ℤ). first ≤ℤ z) (+ℤ-neg_ℤ_cancel last (pos 1)) (before_end h)

  not_after : (last +ℤ pos 1) ≤ℤ first → last <ℤ first
  not_after h = go (le_z first last) refl
    where
      go : (up : Bool) → le_z first last ≡ up → last <ℤ first
      go true e = clash_ℤ (after_last (at_most e)) h
      go false e = below e

-- ---- the seven values
abbrev Ordered : Values required → Type 0
Ordered vs = vs.1.0 ≤ℤ vs.1.1.0

ordered : (ts : List (List ℕ)) (vs : Values required) → GiveAll unseen required ts vs → Ordered vs
ordered [] vs g = absurd g
ordered (a ∷ []) vs g = absurd g.1
ordered (a ∷ b ∷ []) vs g = absurd g.1.1
ordered (a ∷ b ∷ c ∷ ts) vs g = g.1.1.0.2

-- A MAPPING FILE'S RANGE HAS A KEY: its first
pub forward : {s : List ℕ} {k : Kbm} {es : List (Option ℤ)} → MappingText s k es → k.start.0 <ℤ k.end.0
forward t = rw t.mapping (after_last (ordered t.lines.first t.values t.lines.values))

pub read_forward : (room : ℕ) (s : List ℕ) (k : Kbm) → read_of room s ≡ gives k → k.start.0 <ℤ k.end.0
read_forward room s k e = forward (accepted room s k e).0

-- ---- without the order of the keys, and with it
abbrev GiveAny : List (List ℕ) → Values required → Type 0
GiveAny = listing.GiveAll unordered unseen required

widen : (ts : List (List ℕ)) (vs : Values required) → GiveAll unseen required ts vs → GiveAny ts vs
widen [] vs g = absurd g
widen (a ∷ []) vs g = absurd g.1
widen (a ∷ b ∷ []) vs g = absurd g.1.1
widen (a ∷ b ∷ c ∷ []) vs g = absurd g.1.1.1
widen (a ∷ b ∷ c ∷ d ∷ []) vs g = absurd g.1.1.1.1
widen (a ∷ b ∷ c ∷ d ∷ e ∷ []) vs g = absurd g.1.1.1.1.1
widen (a ∷ b ∷ c ∷ d ∷ e ∷ f ∷ []) vs g = absurd g.1.1.1.1.1.1
widen (a ∷ b ∷ c ∷ d ∷ e ∷ f ∷ h ∷ []) vs (size, (first, (last, more))) = (size, (first, ((last.0, last.1), more)))
widen (a ∷ b ∷ c ∷ d ∷ e ∷ f ∷ h ∷ i ∷ ts) vs g = absurd g.1.1.1.1.1.1.1

narrow : (ts : List (List ℕ)) (vs : Values required) → GiveAny ts vs → Ordered vs → GiveAll unseen required ts vs
narrow [] vs g o = absurd g
narrow (a ∷ []) vs g o = absurd g.1
narrow (a ∷ b ∷ []) vs g o = absurd g.1.1
narrow (a ∷ b ∷ c ∷ []) vs g o = absurd g.1.1.1
narrow (a ∷ b ∷ c ∷ d ∷ []) vs g o = absurd g.1.1.1.1
narrow (a ∷ b ∷ c ∷ d ∷ e ∷ []) vs g o = absurd g.1.1.1.1.1
narrow (a ∷ b ∷ c ∷ d ∷ e ∷ f ∷ []) vs g o = absurd g.1.1.1.1.1.1
narrow (a ∷ b ∷ c ∷ d ∷ e ∷ f ∷ h ∷ []) vs (size, (first, (last, more))) o = (size, (first, ((last.0, last.1, o), more)))
narrow (a ∷ b ∷ c ∷ d ∷ e ∷ f ∷ h ∷ i ∷ ts) vs g o = absurd g.1.1.1.1.1.1.1

module _ {s : List ℕ} {k : Kbm} {es : List (Option ℤ)} where
  -- THE LANGUAGE SHRANK: it is the one but for this rule, with the first key in the range
  pub shrinks : MappingText s k es ↔ (UnorderedText s k es × (k.start.0 <ℤ k.end.0))
  shrinks = (λ t. (any t, forward t), λ w. some w.0 w.1)
    where
      any : MappingText s k es → UnorderedText s k es
      any t = record {
        says = t.says;
        text = t.text;
        first = t.lines.first;
        rest = t.lines.rest;
        tokens = t.lines.words;
        values = t.values;
        head = widen t.lines.first t.values t.lines.values;
        given = t.given;
        are = t.lines.entries;
        not_large = t.not_large;
        consistent = t.consistent;
        mapping = t.mapping;
        entries = t.entries;
      }

      some : UnorderedText s k es → k.start.0 <ℤ k.end.0 → MappingText s k es
      some u f = record {
        says = u.says;
        text = u.text;
        values = u.values;
        given = u.given;
        lines =
            record {
              first = u.first;
              rest = u.rest;
              words = u.tokens;
              values = narrow u.first u.values u.head (to_last (rw u.mapping at f));
              entries = u.are;
            };
        not_large = u.not_large;
        consistent = u.consistent;
        mapping = u.mapping;
        entries = u.entries;
      }

  -- BY EXACTLY THESE TEXTS: one of that language whose range has no key draws 25
  pub lost : UnorderedText s k es → k.end.0 ≤ℤ k.start.0 → (d : ℕ) × BackwardsText s d
  lost u f = go u.first u.tokens u.head
    where
      go : (ts : List (List ℕ)) → listing.Words mapping u.says (ts ++ u.rest) → GiveAny ts u.values → (d : ℕ) × BackwardsText s d
      go [] t g = absurd g
      go (a ∷ []) t g = absurd g.1
      go (a ∷ b ∷ []) t g = absurd g.1.1
      go (a ∷ b ∷ c ∷ ts) t g =
          let p = word_at mapping u.says (a ∷ b ∷ []) c (ts ++ u.rest) t in (
            length p.before + 1,
            record {
              says = u.says;
              text = u.text;
              before = p.before;
              trimmed = p.trimmed;
              token = p.token;
              after = p.after;
              whole = p.whole;
              line = refl;
              size = u.values.0;
              first = u.values.1.0;
              lines = record { first = a ∷ b ∷ []; rest = []; words = p.words; values = (g.0, (g.1.0, tt)); entries = tt };
              last = u.values.1.1.0;
              is_last = rw p.word at g.1.1.0.0;
              not_largest = g.1.1.0.1;
              below = not_after (rw u.mapping at f);
            },
          )
