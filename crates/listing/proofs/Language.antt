-- THE THEOREMS OF LISTINGS: a walk accepts exactly good lines, with the values and the entries that they give, and it refuses exactly
-- for the earliest fault. Assumes nothing.
use mathlib.Core.Path.{◌≡◌, refl, sym, ◌∙◌, ap, subst}
use mathlib.Core.Bool.{Bool, true, false}
use mathlib.Core.List.{List, [], ◌∷◌, ◌++◌, append-nil}
use mathlib.Core.Logic.{◌⊎◌, ◌↔◌, inl, inr}
use Prim.Native.Nat.{ℕ, suc, ◌+◌, ◌-◌, ◌≤◌}
use native.Mathlib.Omega.{arith}
use lib.Dec.{leb}
use lib.ListN.{length, length-append}
use borrow.Author.Tests.{le-leb, leb-true}
use Rattle.base.specs.Numbers.{no_room, line_missing}
use Rattle.base.specs.Said.{Said, gives, refuses, pick, and_then}
use Rattle.base.proofs.Said.{no_value, no_refusal, same_refuses}
use Rattle.text.specs.Reading.{Meaning, invalid, blank, comment, content}
use Rattle.listing.specs.Listing.{Format, Values, GiveAll, seen_from, Begins, WrongLine, WrongEntry, Fault}
use Rattle.listing.proofs.Follows.{follow, Outcome, outcome}
use Rattle.listing.proofs.Leads.{Leads}
use Rattle.listing.proofs.Walks.{Reads, Place, head_from, seen_from_law, placed, word_on, step_on, end_on, walk_on}

-- nothing was said yet but h
abbrev pub at_start : (F : Format) (R : Reads F) → R.Head → Place F R
at_start F R h = record { fields = F.required; head = h; es = [] }

-- GOOD LINES to the end: `finish` gives x of what they say
pub record Good (F : Format) (R : Reads F) {X : Type 0} (finish : R.Head → List F.Entry → Said X) (room : ℕ) (h : R.Head) (ms : List Meaning) (x : X) : Type 0 where
  pub vs : Values F F.required
  pub es : List F.Entry
  pub lines : Begins F ms F.required vs es
  pub fits : length es ≤ room
  pub is : finish (head_from F R F.required h vs) es ≡ gives x

-- entries that are none
no_more : {F : Format} {ms : List Meaning} {done : List F.Required} {vs : Values F done} {es : List F.Entry} → Begins F ms done vs es → es ≡ [] → Begins F ms done vs []
no_more b e = rw e at b

-- `start`: of the head that a walk starts with, the format has seen nothing
module _ (F : Format) (R : Reads F) {X : Type 0} (finish : R.Head → List F.Entry → Said X) (room : ℕ) (h : R.Head) (start : R.seen h ≡ F.unseen) where
  -- what good lines from the start say, as the format has it
  record SaidSo (ms : List Meaning) (done : List F.Required) (q : Place F R) : Type 0 where
    vs : Values F done
    es : List F.Entry
    lines : Begins F ms done vs es
    said : q.head ≡ head_from F R done h vs
    given : q.es ≡ es

  abbrev so : {ms : List Meaning} {q : Place F R} (l : Leads F R room (at_start F R h) ms q) → SaidSo ms l.done q
  so l = record {
    vs = l.vs;
    es = l.more;
    lines = record {
      first = l.first;
      rest = l.rest;
      words = l.words;
      values = subst (λ (s : F.Seen). GiveAll F s l.done l.first l.vs) start l.values;
      entries = l.entries;
    };
    said = l.head;
    given = l.all;
  }

  -- all required lines are there
  all_so : {ms : List Meaning} {q : Place F R} (l : Leads F R room (at_start F R h) ms q) → q.fields ≡ [] → SaidSo ms F.required q
  all_so l e = let d : l.done ≡ F.required = sym (l.fields ∙ rw e (append-nil l.done)) in rw d at (so l)

  -- and back
  leads : {ms : List Meaning} {done more : List F.Required} {vs : Values F done} {es : List F.Entry} → F.required ≡ done ++ more → Begins F ms done vs es → (more ≡ []) ⊎ (es ≡ []) →
      length es ≤ room → Leads F R room (at_start F R h) ms (record { fields = more; head = head_from F R done h vs; es = es })
  leads {done = done} {vs = vs} {es = es} e b o f = record {
    done = done;
    vs = vs;
    more = es;
    first = b.first;
    rest = b.rest;
    words = b.words;
    values = subst (λ (s : F.Seen). GiveAll F s done b.first vs) (sym start) b.values;
    entries = b.entries;
    fields = e;
    head = refl;
    all = refl;
    order = o;
    fits = λ x. f;
  }

  -- where nothing more is required
  whole : F.required ≡ F.required ++ []
  whole = sym (append-nil F.required)

  -- the walk over good lines and what comes after them
  walks : {ms : List Meaning} {done more : List F.Required} {vs : Values F done} {es : List F.Entry} (after : List Meaning) → F.required ≡ done ++ more → Begins F ms done vs es →
      (more ≡ []) ⊎ (es ≡ []) → length es ≤ room →
      walk_on F R finish room 1 (at_start F R h) (ms ++ after) ≡ walk_on F R finish room (1 + length ms) (record { fields = more; head = head_from F R done h vs; es = es }) after
  walks {ms = ms} {done = done} {more = more} {vs = vs} {es = es} after e b o f =
      follow F R finish room (record { fields = more; head = head_from F R done h vs; es = es }) after 1 (at_start F R h) ms (omega arith) (leads e b o f)

  -- ACCEPTED: what the outcome of a walk says where it gives a value
  good_of : (ms : List Meaning) (x : X) (r : Said X) → Outcome F R finish room 1 (at_start F R h) ms r → r ≡ gives x → Good F R finish room h ms x
  good_of ms x r (Outcome.stops before line after q n d m l st y) e = no_value (sym y ∙ e)
  good_of ms x r (Outcome.ends q l y) e = by_fields q.fields refl (sym y ∙ e)
    where
      by_fields : (fs : List F.Required) → q.fields ≡ fs → end_on F R finish q.head q.es fs ≡ gives x → Good F R finish room h ms x
      by_fields (f ∷ fs) p z = no_value z
      by_fields [] p z =
          let g = all_so l p in
          record {
            vs = g.vs;
            es = g.es;
            lines = g.lines;
            fits = omega (arith, ap length g.given, l.fits (omega arith));
            is = rw (sym g.said, sym g.given) z;
          }

  pub accepts_good : (ms : List Meaning) (x : X) → (walk_on F R finish room 1 (at_start F R h) ms ≡ gives x) ↔ Good F R finish room h ms x
  unfolding walk_on
  accepts_good ms x = (good_of ms x (walk_on F R finish room 1 (at_start F R h) ms) (outcome F R finish room 1 (at_start F R h) ms), back)
    where
      back : Good F R finish room h ms x → walk_on F R finish room 1 (at_start F R h) ms ≡ gives x
      back g = ap (walk_on F R finish room 1 (at_start F R h)) (sym (append-nil ms)) ∙ walks [] whole g.lines (inl refl) g.fits ∙ g.is

  module _ (End : Values F F.required → List F.Entry → ℕ → Type 0) where
    -- what is seen at a place is what the values before it show
    seen_after : (done : List F.Required) (vs : Values F done) → R.seen (head_from F R done h vs) ≡ seen_from F F.unseen done vs
    seen_after done vs = seen_from_law F R done h vs ∙ ap (λ (s : F.Seen). seen_from F s done vs) start

    -- REFUSED at a line: it stands in place of a required one, or after them
    module _ {ms : List Meaning} (before : List Meaning) (line : Meaning) (after : List Meaning) {q : Place F R} (m : ms ≡ before ++ line ∷ after) (l : Leads F R room (at_start F R h) before q) {n d : ℕ} (at : d ≡ 1 + length before) where
      in_required : (f : F.Required) (fs : List F.Required) → q.fields ≡ f ∷ fs → WrongLine F f (R.seen q.head) line n → Fault F End room ms n d
      in_required f fs p w = by_order l.order
        where
          by_order : (q.fields ≡ []) ⊎ (l.more ≡ []) → Fault F End room ms n d
          by_order (inl o) = let y : f ∷ fs ≡ [] = sym p ∙ o in let z : ◌≡◌ {A = ℕ} 0 1 = cc in absurd (omega arith)
          by_order (inr o) =
              Fault.at_required before line after m (omega (arith, at)) l.done f fs (l.fields ∙ rw p) l.vs (no_more (so l).lines o)
              (subst (λ (s : F.Seen). WrongLine F f s line n) (ap R.seen l.head ∙ seen_after l.done l.vs) w)

      in_entries : q.fields ≡ [] → WrongEntry F room q.es line n → Fault F End room ms n d
      in_entries p w =
          let g = all_so l p in
          Fault.at_entry before line after m (omega (arith, at)) g.vs g.es g.lines (omega (arith, ap length g.given, l.fits (omega arith))) (rw g.given at w)

    stop_fault : {ms : List Meaning} (before : List Meaning) (line : Meaning) (after : List Meaning) {q : Place F R} {n d : ℕ} → ms ≡ before ++ line ∷ after → Leads F R room (at_start F R h) before q →
        step_on F R room (1 + length before) line q ≡ refuses n d → Fault F End room ms n d
    stop_fault {ms} before invalid after {q} {n} {d} m l e = let r = same_refuses e in by_fields q.fields refl (sym r.0) (sym r.1)
      where
        by_fields : (fs : List F.Required) → q.fields ≡ fs → n ≡ 1 → d ≡ 1 + length before → Fault F End room ms n d
        by_fields [] p w at = in_entries before invalid after m l at p w
        by_fields (f ∷ fs) p w at = in_required before invalid after m l at f fs p w
    stop_fault before blank after m l e = no_refusal e
    stop_fault before comment after m l e = no_refusal e
    stop_fault {ms} before (content c t) after {q} {n} {d} m l e = by_fields q.fields refl e
      where
        by_value : (f : F.Required) (fs : List F.Required) → q.fields ≡ f ∷ fs → (r : Said (F.Value f)) → R.read_as f q.head (1 + length before) (F.word c t) ≡ r →
            and_then {B = Place F R} r (λ v. gives (record { fields = fs; head = R.put f q.head v; es = q.es })) ≡ refuses n d → Fault F End room ms n d
        by_value f fs p (gives v) y z = no_refusal z
        by_value f fs p (refuses n' d') y z =
            let r = same_refuses z in
            let w = R.read_wrong f q.head (1 + length before) (F.word c t) n' d' y in
            in_required before (content c t) after m l (sym r.1 ∙ w.0) f fs p (rw r.0 at w.1)

        by_room : (x : F.Entry) → R.entry_as (1 + length before) (F.word c t) ≡ gives x → q.fields ≡ [] → (b : Bool) → leb room (length q.es) ≡ b →
            pick {A = Said (Place F R)} b (refuses no_room (1 + length before)) (gives (record { fields = []; head = q.head; es = q.es ++ x ∷ [] })) ≡ refuses n d → Fault F End room ms n d
        by_room x y p true g z =
            let r = same_refuses z in
            let full = leb-true room (length q.es) g in
            let most = l.fits (omega arith) in
            in_entries before (content c t) after m l (sym r.1) p (inr (sym r.0, omega arith, x, R.entry_is (1 + length before) (F.word c t) x y))
        by_room x y p false g z = no_refusal z

        by_entry : (r : Said F.Entry) → R.entry_as (1 + length before) (F.word c t) ≡ r → q.fields ≡ [] → and_then r (placed F R room (1 + length before) q.head q.es) ≡ refuses n d → Fault F End room ms n d
        by_entry (gives x) y p z = by_room x y p (leb room (length q.es)) refl z
        by_entry (refuses n' d') y p z =
            let r = same_refuses z in
            let w = R.entry_bad (1 + length before) (F.word c t) n' d' y in
            in_entries before (content c t) after m l (sym r.1 ∙ w.0) p (inl (rw r.0 at w.1))

        by_fields : (fs : List F.Required) → q.fields ≡ fs → word_on F R room (1 + length before) (F.word c t) q.head q.es fs ≡ refuses n d → Fault F End room ms n d
        by_fields [] p z = by_entry (R.entry_as (1 + length before) (F.word c t)) refl p z
        by_fields (f ∷ fs) p z = by_value f fs p (R.read_as f q.head (1 + length before) (F.word c t)) refl z

    -- AND BACK: a line that draws a number is refused by it
    line_refused : (k : ℕ) (f : F.Required) (more : List F.Required) (g : R.Head) (es : List F.Entry) (n : ℕ) (line : Meaning) → WrongLine F f (R.seen g) line n →
        step_on F R room k line (record { fields = f ∷ more; head = g; es = es }) ≡ refuses n k
    line_refused k f more g es n invalid w = rw w
    line_refused k f more g es n blank w = absurd w
    line_refused k f more g es n comment w = absurd w
    line_refused k f more g es n (content m t) w = rw (R.wrong_read f g k (F.word m t) n w)

    entry_refused : (k : ℕ) (g : R.Head) (es : List F.Entry) (n : ℕ) (line : Meaning) → WrongEntry F room es line n →
        step_on F R room k line (record { fields = []; head = g; es = es }) ≡ refuses n k
    entry_refused k g es n invalid w = rw w
    entry_refused k g es n blank w = absurd w
    entry_refused k g es n comment w = absurd w
    entry_refused k g es n (content m t) (inl w) = rw (R.bad_entry k (F.word m t) n w)
    entry_refused k g es n (content m t) (inr w) = rw (w.0, R.is_entry k (F.word m t) w.2 w.3, le-leb room (length es) (omega (arith, w.1)))

    -- the end is judged as the format says
    module _ (end_wrong : (ms : List Meaning) (vs : Values F F.required) (es : List F.Entry) → Begins F ms F.required vs es → length es ≤ room → (n d : ℕ) → finish (head_from F R F.required h vs) es ≡ refuses n d → (d ≡ 0) × End vs es n)
        (wrong_end : (ms : List Meaning) (vs : Values F F.required) (es : List F.Entry) → Begins F ms F.required vs es → length es ≤ room → (n : ℕ) → End vs es n → finish (head_from F R F.required h vs) es ≡ refuses n 0) where
      -- what the outcome of a walk says where it gives a refusal
      fault_of : (ms : List Meaning) (n d : ℕ) (r : Said X) → Outcome F R finish room 1 (at_start F R h) ms r → r ≡ refuses n d → Fault F End room ms n d
      fault_of ms n d r (Outcome.stops before line after q n' d' m l st y) e =
          let r = same_refuses (sym y ∙ e) in
          stop_fault before line after m l (st ∙ (λ i. refuses (r.0 i) (r.1 i)))
      fault_of ms n d r (Outcome.ends q l y) e = by_fields q.fields refl (sym y ∙ e)
        where
          by_order : (f : F.Required) (fs : List F.Required) → q.fields ≡ f ∷ fs → (q.fields ≡ []) ⊎ (l.more ≡ []) →
              ◌≡◌ {A = Said X} (refuses line_missing (length F.required + 1 - length (f ∷ fs))) (refuses n d) → Fault F End room ms n d
          by_order f fs p (inl o) z = let w : f ∷ fs ≡ [] = sym p ∙ o in let y : ◌≡◌ {A = ℕ} 0 1 = cc in absurd (omega arith)
          by_order f fs p (inr o) z =
              let r = same_refuses z in
              let rq : F.required ≡ l.done ++ f ∷ fs = l.fields ∙ rw p in
              Fault.missing (sym r.0) l.done f fs rq (omega (arith, r.1, ap length rq, length-append l.done (f ∷ fs))) l.vs (no_more (so l).lines o)

          by_fields : (fs : List F.Required) → q.fields ≡ fs → end_on F R finish q.head q.es fs ≡ refuses n d → Fault F End room ms n d
          by_fields (f ∷ fs) p z = by_order f fs p l.order z
          by_fields [] p z =
              let g = all_so l p in
              let f : length g.es ≤ room = omega (arith, ap length g.given, l.fits (omega arith)) in
              let w = end_wrong ms g.vs g.es g.lines f n d (rw (sym g.said, sym g.given) z) in
              Fault.at_end w.0 g.vs g.es g.lines f w.1

      fault_refused : (ms : List Meaning) (n d : ℕ) → Fault F End room ms n d → walk_on F R finish room 1 (at_start F R h) ms ≡ refuses n d
      unfolding walk_on
      fault_refused ms n d (Fault.at_required before line after m p done f more rq vs b w) =
          let k : 1 + length before ≡ d = omega arith in
          let drawn = subst (λ (s : F.Seen). WrongLine F f s line n) (sym (seen_after done vs)) w in
          let step = line_refused (1 + length before) f more (head_from F R done h vs) [] n line drawn in
          ap (walk_on F R finish room 1 (at_start F R h)) m ∙ walks (line ∷ after) rq b (inr refl) (omega arith) ∙ rw (step, k)
      fault_refused ms n d (Fault.at_entry before line after m p vs es b f w) =
          let k : 1 + length before ≡ d = omega arith in
          let step = entry_refused (1 + length before) (head_from F R F.required h vs) es n line w in
          ap (walk_on F R finish room 1 (at_start F R h)) m ∙ walks (line ∷ after) whole b (inl refl) f ∙ rw (step, k)
      fault_refused ms n d (Fault.missing e done f more rq p vs b) =
          let k : length F.required + 1 - length (f ∷ more) ≡ d = omega (arith, ap length rq, length-append done (f ∷ more)) in
          ap (walk_on F R finish room 1 (at_start F R h)) (sym (append-nil ms)) ∙ walks [] rq b (inr refl) (omega arith) ∙ rw (e, k)
      fault_refused ms n d (Fault.at_end e vs es b f w) =
          ap (walk_on F R finish room 1 (at_start F R h)) (sym (append-nil ms)) ∙ walks [] whole b (inl refl) f ∙ wrong_end ms vs es b f n w ∙ ap (refuses n) (sym e)

      pub refuses_fault : (ms : List Meaning) (n d : ℕ) → (walk_on F R finish room 1 (at_start F R h) ms ≡ refuses n d) ↔ Fault F End room ms n d
      refuses_fault ms n d = (fault_of ms n d (walk_on F R finish room 1 (at_start F R h) ms) (outcome F R finish room 1 (at_start F R h) ms), fault_refused ms n d)
