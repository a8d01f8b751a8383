-- A BACKWARDS RANGE IS REFUSED (document 02, W8): 25 is drawn exactly by its texts, at the line of the last key, whatever follows and in
-- whatever room. Assumes nothing.
use Rattle.std.specs.Prelude.{ℤ}
use Rattle.std.specs.Prelude.{Option}
use mathlib.Core.Path.{◌≡◌, refl, ◌∙◌, ap, subst}
use mathlib.Core.List.{List, [], ◌∷◌, ◌++◌}
use mathlib.Core.Logic.{◌↔◌, inl, inr}
use Prim.Native.Nat.{ℕ, ◌+◌}
use native.Mathlib.Omega.{arith}
use lib.ListN.{length, length-append}
use Rattle.base.specs.Numbers.{backwards_range}
use Rattle.base.specs.Said.{refuses}
use Rattle.listing.specs.Listing.{seen_from, WrongLine, WrongEntry, Fault}
use Rattle.text.specs.Reading.{Meaning, invalid, blank, comment, content}
use Rattle.kbm_read.specs.Backwards.{BackwardsText}
use Rattle.kbm_read.specs.Language.{Required, required, Seen, unseen, Values, Begins, Wrong, Backwards, mapping}
use Rattle.kbm_read.specs.Language.{size_of, WrongEnd, FaultText}
use Rattle.kbm_read.specs.Reader.{read_of}
use Rattle.kbm_read.proofs.Language.{refuses_fault}

-- only the last key draws it, and only by its order
last_draws : (f : Required) (key : Seen) (t : List ℕ) → Wrong f key t backwards_range →
    (f ≡ Required.last) × Backwards key t backwards_range
last_draws Required.size key t w = absurd (omega (arith, w.0))
last_draws Required.first key t w = absurd (omega (arith, w.0))
last_draws Required.last key t (inl w) = absurd (omega (arith, w.0))
last_draws Required.last key t (inr (inl w)) = absurd (omega (arith, w.0))
last_draws Required.last key t (inr (inr w)) = (refl, w)
last_draws Required.middle key t w = absurd (omega (arith, w.0))
last_draws Required.reference key t w = absurd (omega (arith, w.0))
last_draws Required.pitch key t (inl w) = absurd (omega (arith, w.0))
last_draws Required.pitch key t (inr (inl w)) = absurd (omega (arith, w.0))
last_draws Required.pitch key t (inr (inr w)) = absurd (omega (arith, w.0))
last_draws Required.octave key t w = absurd (omega (arith, w.0))

-- which stands after size and first key
before_last : (done more : List Required) → required ≡ done ++ Required.last ∷ more → Required.size ∷ Required.first ∷ [] ≡ done
before_last [] more e = let z : ◌≡◌ {A = ℕ} 0 1 = cc in absurd (omega arith)
before_last (a ∷ []) more e = let z : ◌≡◌ {A = ℕ} 0 1 = cc in absurd (omega arith)
before_last (a ∷ b ∷ []) more e = cc
before_last (a ∷ b ∷ c ∷ []) more e = let z : ◌≡◌ {A = ℕ} 0 1 = cc in absurd (omega arith)
before_last (a ∷ b ∷ c ∷ d ∷ []) more e = let z : ◌≡◌ {A = ℕ} 0 1 = cc in absurd (omega arith)
before_last (a ∷ b ∷ c ∷ d ∷ f ∷ []) more e = let z : ◌≡◌ {A = ℕ} 0 1 = cc in absurd (omega arith)
before_last (a ∷ b ∷ c ∷ d ∷ f ∷ g ∷ []) more e = let z : ◌≡◌ {A = ℕ} 0 1 = cc in absurd (omega arith)
before_last (a ∷ b ∷ c ∷ d ∷ f ∷ g ∷ h ∷ done) more e = absurd (omega (arith, ap length e, length-append done (Required.last ∷ more)))

module _ (room : ℕ) (s : List ℕ) (d : ℕ) where
  abbrev End : Values required → List (Option ℤ) → ℕ → Type 0
  End vs es n = WrongEnd room (size_of vs) es n

  -- the fault is of a line with content, where the last key is due
  module _ (t : FaultText room s backwards_range d) where
    at_line : (before : List Meaning) (line : Meaning) (after : List Meaning) → t.says ≡ before ++ line ∷ after → d ≡ length before + 1 →
        (done : List Required) (f : Required) (more : List Required) → required ≡ done ++ f ∷ more →
        (vs : Values done) → Begins before done vs [] →
        WrongLine mapping f (seen_from mapping unseen done vs) line backwards_range → BackwardsText s d
    at_line before invalid after e p done f more q vs b w = absurd (omega (arith, w))
    at_line before blank after e p done f more q vs b w = absurd w
    at_line before comment after e p done f more q vs b w = absurd w
    at_line before (content m x) after e p done f more q vs b w =
        let l = last_draws f (seen_from mapping unseen done vs) x w in
        let placed : required ≡ done ++ Required.last ∷ more = q ∙ ap (λ (g : Required). done ++ g ∷ more) l.0 in
        subst Placed (before_last done more placed) found vs b l.1
      where
        Placed : List Required → Type 0
        Placed fs =
            (us : Values fs) → Begins before fs us [] → Backwards (seen_from mapping unseen fs us) x backwards_range → BackwardsText s d

        found : Placed (Required.size ∷ Required.first ∷ [])
        found us c k = record {
          says = t.says;
          text = t.text;
          before = before;
          trimmed = m;
          token = x;
          after = after;
          whole = e;
          line = p;
          size = us.0;
          first = us.1.0;
          lines = c;
          last = k.1;
          is_last = k.2;
          not_largest = k.3;
          below = k.4;
        }

    after_head : (es : List (Option ℤ)) (line : Meaning) → WrongEntry mapping room es line backwards_range → ⊥
    after_head es invalid w = omega (arith, w)
    after_head es blank w = w
    after_head es comment w = w
    after_head es (content m x) (inl w) = omega (arith, w.0)
    after_head es (content m x) (inr w) = omega (arith, w.0)

    at_end : (top : ℕ) (es : List (Option ℤ)) → WrongEnd room top es backwards_range → ⊥
    at_end top es (inl w) = omega (arith, w.0)
    at_end top es (inr (inl w)) = omega (arith, w.0)
    at_end top es (inr (inr w)) = omega (arith, w.0)

    fault_backwards : Fault mapping End room t.says backwards_range d → BackwardsText s d
    fault_backwards (Fault.at_required before line after e p done f more q vs b w) = at_line before line after e p done f more q vs b w
    fault_backwards (Fault.at_entry before line after e p vs es b l w) = absurd (after_head es line w)
    fault_backwards (Fault.missing e done f more q p vs b) = absurd (omega (arith, e))
    fault_backwards (Fault.at_end p vs es b l w) = absurd (at_end (size_of vs) es w)

  backwards_fault : BackwardsText s d → FaultText room s backwards_range d
  backwards_fault t = record {
    says = t.says;
    text = t.text;
    fault =
        Fault.at_required t.before (content t.trimmed t.token) t.after t.whole t.line
        (Required.size ∷ Required.first ∷ []) Required.last
        (Required.middle ∷ Required.reference ∷ Required.pitch ∷ Required.octave ∷ []) refl
        (t.size, (t.first, tt)) t.lines (inr (inr (refl, t.last, t.is_last, t.not_largest, t.below)));
  }

  -- A READ SAYS 25 exactly for these texts, at that line, in whatever room and whatever follows
  pub backwards_exactly : (read_of room s ≡ refuses backwards_range d) ↔ BackwardsText s d
  backwards_exactly = (
    λ e. let t = (refuses_fault room s backwards_range d).0 e in fault_backwards t t.fault,
    λ t. (refuses_fault room s backwards_range d).1 (backwards_fault t),
  )
