-- The walk follows good lines to the place that they lead to, and every walk is good lines up to its end or its first fault.
-- Assumes nothing.
use mathlib.Core.Path.{◌≡◌, refl, sym, ◌∙◌, ap, subst}
use mathlib.Core.List.{List, [], ◌∷◌, ◌++◌, append_assoc, append-nil}
use mathlib.Core.Logic.{◌⊎◌, inl, inr}
use Prim.Native.Nat.{ℕ, suc, ◌+◌, ◌≤◌}
use native.Mathlib.Omega.{arith}
use lib.ListN.{length, length-append}
use borrow.Author.Tests.{lt-leb}
use Rattle.base.specs.Said.{Said, gives, refuses, and_then}
use Rattle.text.specs.Reading.{Meaning, invalid, blank, comment, content}
use Rattle.listing.specs.Listing.{Format, Values, GiveAll, Entries, Words}
use Rattle.listing.proofs.Leads.{Leads, lead_none, lead_step}
use Rattle.listing.proofs.Walks.{Reads, Place, head_from, step_on, end_on, walk_on}

module _ (F : Format) (R : Reads F) where
  same_place : {p q : Place F R} → p.fields ≡ q.fields → p.head ≡ q.head → p.es ≡ q.es → p ≡ q
  same_place a b c = λ i. record { fields = a i; head = b i; es = c i }

  -- where there are no lines there are no words, and so no values and no entries
  no_words : (first rest : List F.Word) → Words F [] (first ++ rest) → (first ≡ []) × (rest ≡ [])
  no_words [] [] t = (refl, refl)
  no_words [] (x ∷ rest) t = absurd t
  no_words (x ∷ first) rest t = absurd t

  no_values : (h : R.Head) (done : List F.Required) (vs : Values F done) → GiveAll F (R.seen h) done [] vs → (done ≡ []) × (head_from F R done h vs ≡ h)
  no_values h [] vs g = (refl, refl)
  no_values h (f ∷ fs) vs g = absurd g

  no_entries : (es : List F.Entry) → Entries F [] es → es ≡ []
  no_entries [] e = refl
  no_entries (x ∷ es) e = absurd e

  lead_same : {room : ℕ} {p q : Place F R} → Leads F R room p [] q → p ≡ q
  lead_same {p = p} l =
      let t = no_words l.first l.rest l.words in
      let v = no_values p.head l.done l.vs (rw t.0 at l.values) in
      let e = no_entries l.more (rw t.1 at l.entries) in
      same_place (l.fields ∙ rw v.0) (sym (l.head ∙ v.1)) (sym (l.all ∙ rw e (append-nil p.es)))

  -- past a line that drops out
  lead_back : {room : ℕ} {p : Place F R} {ms : List Meaning} {q : Place F R} (m : Meaning) → ((ws : List F.Word) → Words F (m ∷ ms) ws → Words F ms ws) → Leads F R room p (m ∷ ms) q → Leads F R room p ms q
  lead_back m d l = record {
    done = l.done;
    vs = l.vs;
    more = l.more;
    first = l.first;
    rest = l.rest;
    words = d (l.first ++ l.rest) l.words;
    values = l.values;
    entries = l.entries;
    fields = l.fields;
    head = l.head;
    all = l.all;
    order = l.order;
    fits = l.fits;
  }

  module _ {X : Type 0} (finish : R.Head → List F.Entry → Said X) (room : ℕ) where
    -- THE WALK FOLLOWS
    module _ (q : Place F R) (after : List Meaning) where
      abbrev Goes : ℕ → Place F R → List Meaning → Type 0
      Goes k p ms = walk_on F R finish room k p (ms ++ after) ≡ walk_on F R finish room (k + length ms) q after

      -- the number of the line after m more
      shifted : (k : ℕ) (p : Place F R) (ms : List Meaning) → Goes (k + 1) p ms → walk_on F R finish room (k + 1) p (ms ++ after) ≡ walk_on F R finish room (k + suc (length ms)) q after
      shifted k p ms w = let z : k + 1 + length ms ≡ k + suc (length ms) = omega arith in w ∙ ap (λ x. walk_on F R finish room x q after) z

      pub follow : (k : ℕ) (p : Place F R) (ms : List Meaning) → length p.es ≤ room → Leads F R room p ms q → Goes k p ms
      unfolding walk_on
      follow k p [] h l = let z : k ≡ k + 0 = omega arith in ap (λ x. walk_on F R finish room k x after) (lead_same l) ∙ ap (λ x. walk_on F R finish room x q after) z
      follow k p (invalid ∷ ms) h l = absurd l.words
      follow k p (blank ∷ ms) h l = shifted k p ms (follow (k + 1) p ms h (lead_back blank (λ ws x. x) l))
      follow k p (comment ∷ ms) h l = shifted k p ms (follow (k + 1) p ms h (lead_back comment (λ ws x. x) l))
      follow k p (content m t ∷ ms) h l =
          go l.done l.vs l.first l.rest l.more l.words l.values l.entries l.fields l.head l.all l.order (l.fits h) (λ p'. follow (k + 1) p' ms)
        where
          goes : (p' : Place F R) → step_on F R room k (content m t) p ≡ gives p' → Goes (k + 1) p' ms →
              and_then (step_on F R room k (content m t) p) (λ x. walk_on F R finish room (k + 1) x (ms ++ after)) ≡ walk_on F R finish room (k + suc (length ms)) q after
          goes p' e w = rw e (shifted k p' ms w)

          go : (done : List F.Required) (vs : Values F done) (first rest : List F.Word) (es : List F.Entry) → Words F (content m t ∷ ms) (first ++ rest) → GiveAll F (R.seen p.head) done first vs →
              Entries F rest es → p.fields ≡ done ++ q.fields → q.head ≡ head_from F R done p.head vs → q.es ≡ p.es ++ es → (q.fields ≡ []) ⊎ (es ≡ []) → length q.es ≤ room →
              ((p' : Place F R) → length p'.es ≤ room → Leads F R room p' ms q → Goes (k + 1) p' ms) →
              and_then (step_on F R room k (content m t) p) (λ x. walk_on F R finish room (k + 1) x (ms ++ after)) ≡ walk_on F R finish room (k + suc (length ms)) q after
          go (f ∷ done) vs [] rest es tk gv en fl hd al or ft ih = absurd gv
          go (f ∷ done) vs (u ∷ first) rest es tk gv en fl hd al or ft ih =
              goes (record { fields = done ++ q.fields; head = R.put f p.head vs.0; es = p.es })
              (rw (fl, R.gives_read f p.head k (F.word m t) vs.0 (rw tk.0 at gv.0)))
              (ih (record { fields = done ++ q.fields; head = R.put f p.head vs.0; es = p.es }) h (record {
                done = done;
                vs = vs.1;
                more = es;
                first = first;
                rest = rest;
                words = tk.1;
                values = subst (λ (s : F.Seen). GiveAll F s done first vs.1) (sym (R.seen_put f p.head vs.0)) gv.1;
                entries = en;
                fields = refl;
                head = hd;
                all = al;
                order = or;
                fits = λ y. ft;
              }))
          go [] vs (u ∷ first) rest es tk gv en fl hd al or ft ih = absurd gv
          go [] vs [] [] es tk gv en fl hd al or ft ih = absurd tk
          go [] vs [] (u ∷ rest) [] tk gv en fl hd al or ft ih = absurd en
          go [] vs [] (u ∷ rest) (x ∷ es) tk gv en fl hd al (inr o) ft ih = let z : ◌≡◌ {A = ℕ} 0 1 = cc in absurd (omega arith)
          go [] vs [] (u ∷ rest) (x ∷ es) tk gv en fl hd al (inl o) ft ih =
              let n : length q.es ≡ length p.es + suc (length es) = ap length al ∙ length-append p.es (x ∷ es) in
              goes (record { fields = []; head = p.head; es = p.es ++ x ∷ [] })
              (rw (fl ∙ o, R.is_entry k (F.word m t) x (rw tk.0 at en.0), lt-leb room (length p.es) (omega (arith, n))))
              (ih (record { fields = []; head = p.head; es = p.es ++ x ∷ [] }) (omega (arith, n, length-append p.es (x ∷ []))) (record {
                done = [];
                vs = tt;
                more = es;
                first = [];
                rest = rest;
                words = tk.1;
                values = tt;
                entries = en.1;
                fields = sym o;
                head = hd;
                all = al ∙ sym (append_assoc p.es (x ∷ []) es);
                order = inl o;
                fits = λ y. ft;
              }))

    -- EVERY WALK: good lines up to the end of the text, or up to the first line that is refused
    pub data Outcome (k : ℕ) (p : Place F R) (ms : List Meaning) (r : Said X) : Type 0 where
      ends : (q : Place F R) → Leads F R room p ms q → r ≡ end_on F R finish q.head q.es q.fields → Outcome k p ms r
      stops : (before : List Meaning) (line : Meaning) (after : List Meaning) (q : Place F R) (n d : ℕ) → ms ≡ before ++ line ∷ after → Leads F R room p before q →
          step_on F R room (k + length before) line q ≡ refuses n d → r ≡ refuses n d → Outcome k p ms r

    pub outcome : (k : ℕ) (p : Place F R) (ms : List Meaning) → Outcome k p ms (walk_on F R finish room k p ms)
    unfolding walk_on
    outcome k p [] = Outcome.ends p (lead_none F R p) refl
    outcome k p (m ∷ ms) = go (step_on F R room k m p) refl (λ p'. outcome (k + 1) p' ms)
      where
        more : (p' : Place F R) → step_on F R room k m p ≡ gives p' → (r : Said X) → Outcome (k + 1) p' ms r → Outcome k p (m ∷ ms) r
        more p' e r (Outcome.ends q l x) = Outcome.ends q (lead_step F R k m p p' e l) x
        more p' e r (Outcome.stops before line after q n d s l x y) =
            let z : k + 1 + length before ≡ k + suc (length before) = omega arith in
            Outcome.stops (m ∷ before) line after q n d (ap (λ (u : List Meaning). m ∷ u) s) (lead_step F R k m p p' e l) (ap (λ u. step_on F R room u line q) (sym z) ∙ x) y

        go : (r : Said (Place F R)) → step_on F R room k m p ≡ r → ((p' : Place F R) → Outcome (k + 1) p' ms (walk_on F R finish room (k + 1) p' ms)) →
            Outcome k p (m ∷ ms) (and_then r (λ x. walk_on F R finish room (k + 1) x ms))
        go (gives p') e ih = more p' e (walk_on F R finish room (k + 1) p' ms) (ih p')
        go (refuses n d) e ih =
            let z : k + 0 ≡ k = omega arith in
            Outcome.stops [] m ms p n d refl (lead_none F R p) (ap (λ u. step_on F R room u m p) z ∙ e) refl
