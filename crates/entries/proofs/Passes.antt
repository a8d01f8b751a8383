-- A pass over a list, entry by entry: what it tests, and which neighbours it keeps. Assumes nothing.
use mathlib.Core.Path.{◌≡◌, refl, sym, ◌∙◌, ap, subst}
use mathlib.Core.Bool.{Bool, true, false, ◌&&◌, ◌||◌}
use mathlib.Core.List.{List, [], ◌∷◌}
use Prim.Native.Nat.{ℕ, zero, suc, ◌+◌, ◌-◌, ◌≤◌, ◌<◌, min}
use native.Mathlib.Nat.{le_of_suc-le-suc, not-suc-le-zero}
use native.Mathlib.Omega.{arith}
use lib.Dec.{ltb, leb, lit≤}
use lib.ListN.{length, get_or, take, length-map}
use lib.Ieee.{Float, lt}
use borrow.Author.Tests.{le-ltb, ltb-true, ltb-false, ne_eqb}
use Rattle.base.specs.Said.{pick}
use Rattle.sorting.proofs.Order.{clash}
use Rattle.sorted.specs.Lent.{places_of, ratios_of, may_follow, usable_after, are_within, first_not_below}
use Rattle.searching.specs.Search.{clamped, upper_of}
use Rattle.entries.specs.Entries.{as_entry, as_entries, no_sorted_entry}
use Rattle.entries.specs.declared.SortedEntry.{SortedEntry}
use Rattle.entries.specs.Scans.{goes_up, scan_step, scanned}
use Rattle.entries.specs.declared.search.Aim.{Aim}
use Rattle.entries.specs.declared.search.Scan.{Scan}
use Rattle.entries.proofs.Opened.{step_by, step_is}

-- ---- the pass from the first entry on
abbrev pub run : Scan → List SortedEntry → ℕ → Scan
run s [] i = s
run s (e ∷ l) i = run (scan_step s e i) l (suc i)

run_last : (l : List SortedEntry) (s : Scan) (i n k : ℕ) → n < length l → i + n ≡ k → run s (take (suc n) l) i ≡ scan_step (run s (take n l) i) (get_or l n no_sorted_entry) k
run_last [] s i n k h e = absurd (not-suc-le-zero h)
run_last (x ∷ l) s i zero k h e = let z : i ≡ k = omega (arith, e) in ap (scan_step s x) z
run_last (x ∷ l) s i (suc n) k h e = run_last l (scan_step s x i) (suc i) n k (le_of_suc-le-suc h) (omega (arith, e))

pub scanned_is : (s : Scan) (l : List SortedEntry) (n : ℕ) → n ≤ length l → scanned s l n ≡ run s (take n l) 0
scanned_is s l zero h = refl
scanned_is s l (suc n) h = ap (λ (t : Scan). scan_step t (get_or l n no_sorted_entry) n) (scanned_is s l n (omega (arith, h))) ∙ sym (run_last l s 0 n n h (omega arith))

-- ---- what stays, and what is tested
pub run_count : (l : List SortedEntry) (s : Scan) (i : ℕ) → (run s l i).count ≡ s.count
run_count [] s i = refl
run_count (e ∷ l) s i = run_count l (scan_step s e i) (suc i)

pub run_aim : (l : List SortedEntry) (s : Scan) (i : ℕ) → (run s l i).aim ≡ s.aim
run_aim [] s i = refl
run_aim (e ∷ l) s i = run_aim l (scan_step s e i) (suc i)

pub and_true : (b : Bool) → (b && true) ≡ b
and_true true = refl
and_true false = refl

and_false : (b : Bool) → false ≡ (b && false)
and_false true = refl
and_false false = refl

sorts_out : (u g w r p : Bool) → ((u && (g && w)) && (r && p)) ≡ (u && ((g && r) && (w && p)))
sorts_out false g w r p = refl
sorts_out true false w r p = refl
sorts_out true true true r p = refl
sorts_out true true false r p = and_false r

pub run_usable : (l : List SortedEntry) (s : Scan) (i : ℕ) → (run s l i).usable ≡ (s.usable && (usable_after s.last (ratios_of (as_entries l)) && are_within s.count (places_of (as_entries l))))
unfolding usable_after are_within
run_usable [] s i = sym (and_true s.usable)
run_usable (e ∷ l) s i =
    run_usable l (scan_step s e i) (suc i)
    ∙ sorts_out s.usable (may_follow s.last e.ratio) (leb e.place s.count) (usable_after e.ratio (ratios_of (as_entries l))) (are_within s.count (places_of (as_entries l)))

-- ---- the neighbours: from the place i on the upper one goes up by j places
abbrev UpBy : Scan → List SortedEntry → Scan → ℕ → Type 0
UpBy s l f j = (f.at ≡ s.at + j) × (f.upper ≡ get_or (s.upper ∷ l) j no_sorted_entry) × (f.lower ≡ get_or (s.lower ∷ s.upper ∷ l) j no_sorted_entry)

abbrev up : Scan → List SortedEntry → ℕ
up s l = min (first_not_below (s.upper.ratio ∷ ratios_of (as_entries l)) s.aim.target) (length l)

min_none : (n : ℕ) → min n 0 ≡ 0
min_none n = omega arith

none_min : (n : ℕ) → min 0 n ≡ 0
none_min n = omega arith

min_suc : (n m : ℕ) → min (suc n) (suc m) ≡ suc (min n m)
min_suc n m = omega arith

climb : (l : List SortedEntry) (s : Scan) (i : ℕ) → 2 ≤ i → (lt s.upper.ratio s.aim.target ≡ true → i ≡ s.at + 1) → UpBy s l (run s l i) (up s l)
climb [] s i h k = subst (UpBy s [] s) (sym (min_none (first_not_below (s.upper.ratio ∷ []) s.aim.target))) (omega arith, refl, refl)
climb (e ∷ l) s i h k = by (λ m n p w. climb l m n p w) (lt s.upper.ratio s.aim.target) refl
  where
    t : Bool
    t = may_follow s.last e.ratio && leb e.place s.count

    up_is : (b : Bool) → lt s.upper.ratio s.aim.target ≡ b → (m : List Float) (n : ℕ) → min (first_not_below (s.upper.ratio ∷ m) s.aim.target) n ≡ min (pick b (suc (first_not_below m s.aim.target)) 0) n
    up_is b q m n = ap (λ (c : Bool). min (pick c (suc (first_not_below m s.aim.target)) 0) n) q

    goes : (b : Bool) → lt s.upper.ratio s.aim.target ≡ b → goes_up s.upper.ratio s.aim.target i ≡ b
    goes b q = ap (λ (c : Bool). c || lt s.upper.ratio s.aim.target) (le-ltb i 2 h) ∙ q

    by : ((m : Scan) (n : ℕ) → 2 ≤ n → (lt m.upper.ratio m.aim.target ≡ true → n ≡ m.at + 1) → UpBy m l (run m l n) (up m l))
        → (b : Bool) → lt s.upper.ratio s.aim.target ≡ b → UpBy s (e ∷ l) (run s (e ∷ l) i) (up s (e ∷ l))
    by rest true q =
        let m = step_by s e i t true in
        let c = rest m (suc i) (omega (arith, h)) (λ _. omega arith) in
        let z = up_is true q (e.ratio ∷ ratios_of (as_entries l)) (suc (length l)) ∙ min_suc (first_not_below (e.ratio ∷ ratios_of (as_entries l)) s.aim.target) (length l) in
        let a = c.0 in
        let v = k q in
        subst (λ (f : Scan). UpBy s (e ∷ l) (run f l (suc i)) (up s (e ∷ l))) (step_is s e i true refl (goes true q))
        (subst (UpBy s (e ∷ l) (run m l (suc i))) (sym z) (omega (arith, a, v), c.1, c.2))
    by rest false q =
        let m = step_by s e i t false in
        let c = rest m (suc i) (omega (arith, h)) (λ r. clash r q) in
        let y = up_is false q (ratios_of (as_entries l)) (length l) ∙ none_min (length l) in
        let z = up_is false q (e.ratio ∷ ratios_of (as_entries l)) (suc (length l)) ∙ none_min (suc (length l)) in
        subst (λ (f : Scan). UpBy s (e ∷ l) (run f l (suc i)) (up s (e ∷ l))) (step_is s e i false refl (goes false q))
        (subst (UpBy s (e ∷ l) (run m l (suc i))) (sym z) (subst (UpBy m l (run m l (suc i))) y c))

-- ---- two entries or more
clamp_some : (last n : ℕ) → 0 < n → clamped last n ≡ min last n
clamp_some last n h = ap (λ (b : Bool). pick b 1 (pick (ltb last n) last n)) (ne_eqb n 0 (λ e. omega (arith, h, e))) ∙ go (ltb last n) refl
  where
    go : (b : Bool) → ltb last n ≡ b → pick b last n ≡ min last n
    go true e = let l = ltb-true last n e in omega (arith, l)
    go false e = let l = ltb-false last n e in omega (arith, l)

-- where the pass ends in a list: at the first entry not below the target, but not at the first of all and not behind the last
abbrev pub Ends : List SortedEntry → Scan → Type 0
Ends es f = (f.at ≡ upper_of (as_entries es) f.aim.target) × (f.upper ≡ get_or es f.at no_sorted_entry) × (f.lower ≡ get_or es (f.at - 1) no_sorted_entry)

pub run_ends : (s : Scan) (a b : SortedEntry) (l : List SortedEntry) → (lt a.ratio s.aim.target ≡ false → lt b.ratio s.aim.target ≡ false) → Ends (a ∷ b ∷ l) (run s (a ∷ b ∷ l) 0)
run_ends s a b l falls =
    let c = climb l (scan_step (scan_step s a 0) b 1) 2 (lit≤ tt) (λ _. refl) in
    let e : (run s (a ∷ b ∷ l) 0).at ≡ suc j = let p = c.0 in omega (arith, p) in
    let f = run s (a ∷ b ∷ l) 0 in
    let d : f.at - 1 ≡ j = omega (arith, e) in (
      e ∙ sym (place (lt a.ratio target) refl) ∙ ap (λ (x : Float). upper_of (as_entries (a ∷ b ∷ l)) x) (sym (ap (λ (m : Aim). m.target) (run_aim (a ∷ b ∷ l) s 0))),
      c.1 ∙ ap (λ (n : ℕ). get_or (a ∷ b ∷ l) n no_sorted_entry) (sym e),
      c.2 ∙ ap (λ (n : ℕ). get_or (a ∷ b ∷ l) n no_sorted_entry) (sym d),
    )
  where
    target : Float
    target = s.aim.target

    rs : List Float
    rs = ratios_of (as_entries l)

    first : ℕ
    first = first_not_below (b.ratio ∷ rs) target

    j : ℕ
    j = min first (length l)

    size : length (as_entries l) ≡ length l
    size = length-map l as_entry

    place : (x : Bool) → lt a.ratio target ≡ x → upper_of (as_entries (a ∷ b ∷ l)) target ≡ suc j
    place true q =
        ap (λ (x : Bool). clamped (length (as_entries (a ∷ b ∷ l)) - 1) (pick x (suc first) 0)) q
        ∙ clamp_some (length (as_entries (a ∷ b ∷ l)) - 1) (suc first) (omega arith) ∙ omega (arith, size)
    place false q =
        ap (λ (x : Bool). clamped (length (as_entries (a ∷ b ∷ l)) - 1) (pick x (suc first) 0)) q
        ∙ ap suc (sym (none_min (length l)) ∙ ap (λ (n : ℕ). min n (length l)) (sym (ap (λ (x : Bool). pick x (suc (first_not_below rs target)) 0) (falls q))))
