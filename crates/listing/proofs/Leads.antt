-- Good lines lead from one place to another, and the walk follows them: both ways. Assumes nothing.
use mathlib.Core.Path.{◌≡◌, refl, sym, ◌∙◌, ap, subst}
use mathlib.Core.Bool.{Bool, true, false}
use mathlib.Core.List.{List, [], ◌∷◌, ◌++◌, append_assoc, append-nil}
use mathlib.Core.Logic.{◌⊎◌, inl, inr}
use Prim.Native.Nat.{ℕ, ◌+◌, ◌≤◌, ◌<◌}
use native.Mathlib.Omega.{arith}
use lib.Dec.{leb}
use lib.ListN.{length, length-append}
use borrow.Author.Tests.{leb-false}
use Rattle.base.specs.Said.{Said, gives, refuses, pick, and_then}
use Rattle.base.specs.Numbers.{no_room}
use Rattle.base.proofs.Said.{same_value, no_value}
use Rattle.text.specs.Reading.{Meaning, invalid, blank, comment, content}
use Rattle.listing.specs.Listing.{Format, Values, GiveAll, Entries, Words}
use Rattle.listing.proofs.Walks.{Reads, Place, head_from, placed, word_on, step_on}

-- GOOD LINES from a place p to a place q: the required lines `done` get values, and entries follow where none is left
pub record Leads (F : Format) (R : Reads F) (room : ℕ) (p : Place F R) (ms : List Meaning) (q : Place F R) : Type 0 where
  pub done : List F.Required
  pub vs : Values F done
  pub more : List F.Entry
  pub first : List F.Word
  pub rest : List F.Word
  pub words : Words F ms (first ++ rest)
  pub values : GiveAll F (R.seen p.head) done first vs
  pub entries : Entries F rest more
  pub fields : p.fields ≡ done ++ q.fields
  pub head : q.head ≡ head_from F R done p.head vs
  pub all : q.es ≡ p.es ++ more
  pub order : (q.fields ≡ []) ⊎ (more ≡ [])
  pub fits : length p.es ≤ room → length q.es ≤ room

module _ (F : Format) (R : Reads F) where
  -- where nothing is required, only entries come
  only_entries : (q : Place F R) (h : R.Head) (done : List F.Required) (vs : Values F done) (first : List F.Word) → [] ≡ done ++ q.fields → GiveAll F (R.seen h) done first vs →
      (first ≡ []) × (head_from F R done h vs ≡ h) × (q.fields ≡ [])
  only_entries q h [] vs [] e g = (refl, refl, sym e)
  only_entries q h [] vs (t ∷ ts) e g = absurd g
  only_entries q h (f ∷ fs) vs first e g = let z : ◌≡◌ {A = ℕ} 0 1 = cc in absurd (omega arith)

  module _ {room : ℕ} where
    pub lead_none : (p : Place F R) → Leads F R room p [] p
    lead_none p = record {
      done = [];
      vs = tt;
      more = [];
      first = [];
      rest = [];
      words = tt;
      values = tt;
      entries = tt;
      fields = refl;
      head = refl;
      all = sym (append-nil p.es);
      order = inr refl;
      fits = λ h. h;
    }

    module _ {p : Place F R} {ms : List Meaning} {q : Place F R} where
      -- a line that drops out
      pub lead_past : (m : Meaning) → ((ws : List F.Word) → Words F ms ws → Words F (m ∷ ms) ws) → Leads F R room p ms q → Leads F R room p (m ∷ ms) q
      lead_past m d l = record {
        done = l.done;
        vs = l.vs;
        more = l.more;
        first = l.first;
        rest = l.rest;
        words = d (l.first ++ l.rest) l.words;
        values = l.values;
        entries = l.entries;
        fields = l.fields;
        head = l.head;
        all = l.all;
        order = l.order;
        fits = l.fits;
      }

      lead_field : (m t : List ℕ) (f : F.Required) (fs : List F.Required) (v : F.Value f) → p.fields ≡ f ∷ fs → F.Gives f (R.seen p.head) (F.word m t) v →
          Leads F R room (record { fields = fs; head = R.put f p.head v; es = p.es }) ms q → Leads F R room p (content m t ∷ ms) q
      lead_field m t f fs v e g l = record {
        done = f ∷ l.done;
        vs = (v, l.vs);
        more = l.more;
        first = F.word m t ∷ l.first;
        rest = l.rest;
        words = (refl, l.words);
        values = (g, subst (λ (s : F.Seen). GiveAll F s l.done l.first l.vs) (R.seen_put f p.head v) l.values);
        entries = l.entries;
        fields = e ∙ ap (λ (x : List F.Required). f ∷ x) l.fields;
        head = l.head;
        all = l.all;
        order = l.order;
        fits = l.fits;
      }

    lead_entry : {p : Place F R} {ms : List Meaning} {q : Place F R} (m t : List ℕ) (x : F.Entry) → p.fields ≡ [] → F.Is (F.word m t) x → length p.es < room →
        Leads F R room (record { fields = []; head = p.head; es = p.es ++ x ∷ [] }) ms q → Leads F R room p (content m t ∷ ms) q
    lead_entry {p} {ms} {q} m t x e g h l =
        let o = only_entries q p.head l.done l.vs l.first l.fields l.values in
        record {
          done = [];
          vs = tt;
          more = x ∷ l.more;
          first = [];
          rest = F.word m t ∷ l.rest;
          words = (refl, rw o.0 at l.words);
          values = tt;
          entries = (g, l.entries);
          fields = e ∙ sym o.2;
          head = l.head ∙ o.1;
          all = l.all ∙ append_assoc p.es (x ∷ []) l.more;
          order = inl o.2;
          fits = λ y. l.fits (omega (arith, length-append p.es (x ∷ [])));
        }

    -- a line that is taken leads on
    pub lead_step : (k : ℕ) (m : Meaning) (p p' : Place F R) {ms : List Meaning} {q : Place F R} → step_on F R room k m p ≡ gives p' → Leads F R room p' ms q → Leads F R room p (m ∷ ms) q
    lead_step k invalid p p' e l = no_value e
    lead_step k blank p p' e l = lead_past blank (λ ws x. x) (rw (sym (same_value p p' e)) at l)
    lead_step k comment p p' e l = lead_past comment (λ ws x. x) (rw (sym (same_value p p' e)) at l)
    lead_step k (content m t) p p' {ms} {q} e l = by_fields p.fields refl e
      where
        by_room : (x : F.Entry) → R.entry_as k (F.word m t) ≡ gives x → p.fields ≡ [] → (b : Bool) → leb room (length p.es) ≡ b →
            pick b (refuses no_room k) (gives (record { fields = []; head = p.head; es = p.es ++ x ∷ [] })) ≡ gives p' → Leads F R room p (content m t ∷ ms) q
        by_room x y f true g z = no_value z
        by_room x y f false g z =
            lead_entry m t x f (R.entry_is k (F.word m t) x y) (leb-false room (length p.es) g) (rw (sym (same_value (record { fields = []; head = p.head; es = p.es ++ x ∷ [] }) p' z)) at l)

        by_entry : (r : Said F.Entry) → R.entry_as k (F.word m t) ≡ r → p.fields ≡ [] → and_then r (placed F R room k p.head p.es) ≡ gives p' → Leads F R room p (content m t ∷ ms) q
        by_entry (gives x) y f z = by_room x y f (leb room (length p.es)) refl z
        by_entry (refuses n d) y f z = no_value z

        by_value : (f : F.Required) (fs : List F.Required) → p.fields ≡ f ∷ fs → (r : Said (F.Value f)) → R.read_as f p.head k (F.word m t) ≡ r →
            and_then r (λ v. gives (record { fields = fs; head = R.put f p.head v; es = p.es })) ≡ gives p' → Leads F R room p (content m t ∷ ms) q
        by_value f fs g (gives v) y z =
            lead_field m t f fs v g (R.read_gives f p.head k (F.word m t) v y) (rw (sym (same_value (record { fields = fs; head = R.put f p.head v; es = p.es }) p' z)) at l)
        by_value f fs g (refuses n d) y z = no_value z

        by_fields : (fs : List F.Required) → p.fields ≡ fs → word_on F R room k (F.word m t) p.head p.es fs ≡ gives p' → Leads F R room p (content m t ∷ ms) q
        by_fields [] f z = by_entry (R.entry_as k (F.word m t)) refl f z
        by_fields (f ∷ fs) g z = by_value f fs g (R.read_as f p.head k (F.word m t)) refl z
