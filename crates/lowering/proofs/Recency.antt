-- THE ORDER OF THE SLOTS GIVES UP THE SLOT THAT THE RUST'S STAMPS GIVE UP, for every sequence of uses and releases that the clock can
-- count. The relation `Tied`: both hold the same guest registers with the same marks; the clock has counted the uses; each slot stands in
-- the order once, and of two that hold a register the one with the lesser stamp stands first; no such stamp is above the clock. A free
-- slot's stamp may be anything.
--     recency       the sentences of 2026-11 (specs/Recency.antt)
-- Assumes nothing.
use mathlib.Core.Path.{◌≡◌, refl, sym, ap, subst, ◌∙◌}
use mathlib.Core.Logic.{◌≢◌}
use mathlib.Core.Bool.{Bool, true, false}
use mathlib.Core.List.{List, [], ◌∷◌}
use Prim.Native.Nat.{ℕ, zero, suc, ◌+◌, ◌%◌, ◌^◌, ◌<◌, ◌≤◌}
use native.Mathlib.Omega.{arith}
use native.Mathlib.Nat.{mod-eq_of_lt}
use lib.Dec.{eqb, ltb}
use lib.ListN.{length, get_or, set, length-set, get_or-replicate, get_or-eq_default}
use lib.Seq.{get_or-set_same, get_or-set_other}
use borrow.Author.Tests.{eqb-true, eqb-false, eq-eqb, ne_eqb, ltb-true, ltb-false, lt-ltb, le-ltb}
use Rattle.code.specs.Items.{pick}
use Rattle.lowering.specs.declared.RegCache.{RegCache}
use Rattle.lowering.specs.Cache.{FREE, empty_cache, position, is_held, oldest, chosen, slot_for, seated, stored}
use Rattle.lowering.specs.Cache.{latest, touch, assign, mark}
use Rattle.lowering.specs.Stamps.{Stamps, empty_stamps, is_held_stamp, least_from, oldest_stamp, chosen_stamp, slot_stamp}
use Rattle.lowering.specs.Stamps.{tick, touch_stamp, assign_stamp, mark_stamp, release_stamp, release, seated_stamp, stored_stamp}
use Rattle.lowering.specs.Stamps.{Event, reads, writes, releases, behind_all, behind_all_stamp, uses}
use Rattle.lowering.specs.Recency.{count, EachOnce, LowestFree, SameChoice, Recency}
use Rattle.lowering.proofs.Lookups.{position_not, position_first, chosen_lt}
use Rattle.lowering.proofs.Latest.{count-latest, All, all-at, Sorted, sorted-map, sorted-latest}

-- ---- each slot once
once-latest : (i : ℕ) (order : List ℕ) → EachOnce order → EachOnce (latest i order)
once-latest i order h j = count-latest j i order ∙ h j

once-seated : (rc : RegCache) (r : ℕ) → EachOnce rc.order → EachOnce (seated rc r).order
unfolding seated
once-seated rc r h = by (is_held rc r)
  where
    by : (b : Bool) → EachOnce (pick b (touch (position r rc.guest) rc) (assign (chosen rc) r rc)).order
    by true = once-latest _ rc.order h
    by false = once-latest _ rc.order h

once_all : (es : List Event) (rc : RegCache) → EachOnce rc.order → EachOnce (behind_all es rc).order
unfolding behind_all stored
once_all [] rc h = h
once_all (reads r ∷ es) rc h = once_all es (seated rc r) (once-seated rc r h)
once_all (writes r ∷ es) rc h = once_all es (mark (slot_for rc r) (seated rc r)) (once-seated rc r h)
once_all (releases i u ∷ es) rc h = once_all es (release i rc) h

count_none : (i : ℕ) (xs : List ℕ) → All (λ x. x ≢ i) xs → count i xs ≡ 0
unfolding count
count_none i [] h = refl
count_none i (x ∷ xs) h = rw (ne_eqb x i h.0) (count_none i xs h.1)

once-empty : EachOnce empty_cache.order
unfolding count
once-empty i = by (ltb i 8) refl
  where
    slot : (j : ℕ) → j < 8 → count j empty_cache.order ≡ 1
    slot zero l = refl
    slot (suc zero) l = refl
    slot (suc (suc zero)) l = refl
    slot (suc (suc (suc zero))) l = refl
    slot (suc (suc (suc (suc zero)))) l = refl
    slot (suc (suc (suc (suc (suc zero))))) l = refl
    slot (suc (suc (suc (suc (suc (suc zero)))))) l = refl
    slot (suc (suc (suc (suc (suc (suc (suc zero))))))) l = refl
    slot (suc (suc (suc (suc (suc (suc (suc (suc j)))))))) l = absurd (omega arith)

    by : (b : Bool) → ltb i 8 ≡ b → count i empty_cache.order ≡ pick b 1 0
    by true e = slot i (ltb-true i 8 e)
    by false e = count_none i empty_cache.order (omega (arith, ltb-false i 8 e))

module _ (x : ℕ) (xs : List ℕ) (h : EachOnce (x ∷ xs)) where
  head_lt : x < 8
  unfolding count
  head_lt = by (ltb x 8) refl
    where
      by : (b : Bool) → ltb x 8 ≡ b → x < 8
      by true e = ltb-true x 8 e
      by false e = absurd (let z : suc (count x xs) ≡ 0 = rw (eq-eqb x x refl, e) at (h x) in omega arith)

  in_rest : (j : ℕ) → j < 8 → x ≢ j → 0 < count j xs
  unfolding count
  in_rest j l n = let z : count j xs ≡ 1 = rw (ne_eqb x j n, lt-ltb j 8 l) at (h j) in omega arith

-- ---- the Rust's choice
least_stays : (i at least : ℕ) (us : List ℕ) → ((j : ℕ) → j < length us → least ≤ get_or us j 0) → least_from i at least us ≡ at
unfolding least_from
least_stays i at least [] h = refl
least_stays i at least (u ∷ us) h =
    rw (le-ltb u least (h 0 (omega arith))) (least_stays (suc i) at least us (λ j k. h (suc j) (omega arith)))

-- at place m is the least, and nowhere else
least-found : (us : List ℕ) (m i at least : ℕ) → m < length us → get_or us m 0 < least
    → ((j : ℕ) → j < length us → m ≢ j → get_or us m 0 < get_or us j 0) → least_from i at least us ≡ i + m
unfolding least_from
least-found [] m i at least l s f = absurd (omega arith)
least-found (u ∷ us) zero i at least l s f =
    let above : (j : ℕ) → j < length us → u ≤ get_or us j 0 = λ j k. omega (arith, f (suc j) (omega arith) (λ e. omega arith)) in
    rw (lt-ltb u least s) (least_stays (suc i) i u us above ∙ omega arith)
least-found (u ∷ us) (suc m) i at least l s f =
    by (λ i at least k. least-found us m i at least (omega arith) k (λ j p n. f (suc j) (omega arith) (λ e. n (omega arith)))) (ltb u least)
  where
    by : ((i at least : ℕ) → get_or us m 0 < least → least_from i at least us ≡ i + m)
        → (b : Bool) → pick b (least_from (suc i) i u us) (least_from (suc i) at least us) ≡ i + suc m
    by rest true = rest (suc i) i u (f 0 (omega arith) (λ e. omega arith)) ∙ omega arith
    by rest false = rest (suc i) at least s ∙ omega arith

-- ---- the relation, behind n uses
abbrev Occupied : List ℕ → ℕ → Type 0
Occupied gs x = get_or gs x FREE ≢ FREE

abbrev Before : (gs us : List ℕ) → ℕ → ℕ → Type 0
Before gs us x y = (x ≢ y) × (Occupied gs x → Occupied gs y → get_or us x 0 < get_or us y 0)

pub record Tied (n : ℕ) (st : Stamps) (rc : RegCache) : Type 0 where
  pub guests : rc.guest ≡ st.guest
  pub dirties : rc.dirty ≡ st.dirty
  pub slots : length st.guest ≡ 8
  pub stamps : length st.used ≡ 8
  pub clock : st.clock ≡ n
  pub low : (x : ℕ) → Occupied st.guest x → get_or st.used x 0 ≤ n
  pub sorted : Sorted (Before st.guest st.used) rc.order
  pub once : EachOnce rc.order

module _ {n : ℕ} {st : Stamps} {rc : RegCache} (t : Tied n st rc) (b : n < 2 ^ 32) where
  all_occupied : is_held rc FREE ≡ false → (x : ℕ) → x < 8 → Occupied st.guest x
  all_occupied e x l =
      let z : 8 ≤ position FREE st.guest = ltb-false _ 8 (rw t.guests at e) in
      position_not FREE st.guest FREE (omega (arith, t.slots)) x (omega (arith, t.slots))

  -- the head of the order has the least stamp
  pub same_oldest : is_held rc FREE ≡ false → oldest rc ≡ oldest_stamp st
  unfolding oldest oldest_stamp count
  same_oldest e = by rc.order t.sorted t.once
    where
      by : (xs : List ℕ) → Sorted (Before st.guest st.used) xs → EachOnce xs → get_or xs 0 0 % 8 ≡ least_from 0 0 (2 ^ 32) st.used
      by [] s o = absurd (let z : ◌≡◌ {A = ℕ} 0 1 = o 0 in omega arith)
      by (x ∷ xs) s o =
          let k : x < length st.used = omega (arith, l, t.stamps) in
          omega (arith, l, least-found st.used x 0 0 (2 ^ 32) k (omega (arith, t.low x held)) least)
        where
          l : x < 8
          l = head_lt x xs o

          held : Occupied st.guest x
          held = all_occupied e x l

          least : (j : ℕ) → j < length st.used → x ≢ j → get_or st.used x 0 < get_or st.used j 0
          least j k d =
              let m : j < 8 = omega (arith, t.stamps) in
              (all-at (Before st.guest st.used x) j xs s.0 (in_rest x xs o j m d)).1 held (all_occupied e j m)

  pub same_chosen : chosen rc ≡ chosen_stamp st
  unfolding chosen chosen_stamp
  same_chosen = by (is_held rc FREE) refl
    where
      by : (h : Bool) → is_held rc FREE ≡ h
          → pick (is_held rc FREE) (position FREE rc.guest) (oldest rc)
          ≡ pick (is_held_stamp st FREE) (position FREE st.guest) (oldest_stamp st)
      by true e = rw (← t.guests, e)
      by false e = rw (same_oldest e, t.guests)

-- ---- behind a use of slot i, whose guest register may be another one
abbrev SameBut : ℕ → (gs gs' : List ℕ) → Type 0
SameBut i gs gs' = (x : ℕ) → x ≢ i → get_or gs' x FREE ≡ get_or gs x FREE

abbrev Low : (gs us : List ℕ) → ℕ → Type 0
Low gs us n = (x : ℕ) → Occupied gs x → get_or us x 0 ≤ n

module _ (gs gs' us : List ℕ) (i n : ℕ) (l : i < length us) (same : SameBut i gs gs') (low : Low gs us n) where
  abbrev us' : List ℕ
  us' = set us i (suc n)

  other : (x : ℕ) → x ≢ i → Occupied gs' x → (get_or us' x 0 ≡ get_or us x 0) × (get_or us x 0 ≤ n) × Occupied gs x
  other x m h = let k : Occupied gs x = λ e. h (same x m ∙ e) in (get_or-set_other us i x (suc n) 0 m, low x k, k)

  newest : get_or us' i 0 ≡ suc n
  newest = get_or-set_same us i (suc n) 0 l

  used_low : Low gs' us' (suc n)
  used_low x h = by (eqb x i) refl
    where
      by : (c : Bool) → eqb x i ≡ c → get_or us' x 0 ≤ suc n
      by true e = rw (eqb-true x i e) (omega (arith, newest))
      by false e = let o = other x (eqb-false x i e) h in omega arith

  used-sorted : (xs : List ℕ) → Sorted (Before gs us) xs → Sorted (Before gs' us') (latest i xs)
  used-sorted =
      sorted-latest i (λ x y k. k.0)
      (λ x y m k d. (d.0, λ p q. let o = other x m p in let o' = other y k q in let z = d.1 o.2 o'.2 in omega arith))
      (λ x m. (m, λ p q. let o = other x m p in omega (arith, newest)))

module _ {n : ℕ} {st : Stamps} {rc : RegCache} (t : Tied n st rc) where
  tied_mark : (i : ℕ) → Tied n (mark_stamp i st) (mark i rc)
  tied_mark i =
      record {
        guests = t.guests;
        dirties = ap (λ d. set d i true) t.dirties;
        slots = t.slots;
        stamps = t.stamps;
        clock = t.clock;
        low = t.low;
        sorted = t.sorted;
        once = t.once;
      }

  -- a released slot is free: nothing is asked of its stamp
  tied_release : (i u : ℕ) → Tied n (release_stamp i u st) (release i rc)
  tied_release i u =
      record {
        guests = ap (λ g. set g i FREE) t.guests;
        dirties = ap (λ d. set d i false) t.dirties;
        slots = length-set st.guest i FREE ∙ t.slots;
        stamps = length-set st.used i u ∙ t.stamps;
        clock = t.clock;
        low = λ x h. omega (arith, (other_slot x h).0, t.low x (other_slot x h).1);
        sorted = sorted-map still rc.order t.sorted;
        once = t.once;
      }
    where
      freed : (x : ℕ) → x ≡ i → get_or (set st.guest i FREE) x FREE ≡ FREE
      freed x e = by (ltb i (length st.guest)) refl
        where
          by : (c : Bool) → ltb i (length st.guest) ≡ c → get_or (set st.guest i FREE) x FREE ≡ FREE
          by true h = rw e (get_or-set_same st.guest i FREE FREE (ltb-true _ _ h))
          by false h =
              let k : length st.guest ≤ i = ltb-false i (length st.guest) h in
              get_or-eq_default (set st.guest i FREE) FREE (omega (arith, length-set st.guest i FREE))

      other_slot : (x : ℕ) → Occupied (set st.guest i FREE) x
          → (get_or (set st.used i u) x 0 ≡ get_or st.used x 0) × Occupied st.guest x
      other_slot x h =
          let m : x ≢ i = λ e. h (freed x e) in
          (get_or-set_other st.used i x u 0 m, λ e. h (get_or-set_other st.guest i x FREE FREE m ∙ e))

      still : (x y : ℕ) → Before st.guest st.used x y → Before (set st.guest i FREE) (set st.used i u) x y
      still x y d = (d.0, λ p q. omega (arith, (other_slot x p).0, (other_slot y q).0, d.1 (other_slot x p).1 (other_slot y q).1))

module _ {n : ℕ} {st : Stamps} {rc : RegCache} (t : Tied n st rc) (b : suc n < 2 ^ 32) where
  ticked : tick st ≡ suc n
  ticked = omega (arith, t.clock)

  -- a use of slot i, which holds what it held, or another register from now on
  tied_use : (i : ℕ) (gs : List ℕ) (ds : List Bool) → i < 8 → length gs ≡ 8 → SameBut i st.guest gs
      → Tied (suc n) (record { guest = gs; dirty = ds; used = set st.used i (tick st); clock = tick st })
      (record { guest = gs; dirty = ds; order = latest i rc.order })
  tied_use i gs ds l e same =
      let k : i < length st.used = omega (arith, t.stamps) in
      rw ticked
      (record {
        guests = refl;
        dirties = refl;
        slots = e;
        stamps = length-set st.used i (suc n) ∙ t.stamps;
        clock = refl;
        low = used_low st.guest gs st.used i n k same t.low;
        sorted = used-sorted st.guest gs st.used i n k same t.low rc.order t.sorted;
        once = once-latest i rc.order t.once;
      })

  tied_touch : (i : ℕ) → i < 8 → Tied (suc n) (touch_stamp i st) (touch i rc)
  tied_touch i l = rw (t.guests, t.dirties) (tied_use i st.guest st.dirty l t.slots (λ x m. refl))

  tied_assign : (i r : ℕ) → i < 8 → Tied (suc n) (assign_stamp i r st) (assign i r rc)
  tied_assign i r l =
      let e : length (set st.guest i r) ≡ 8 = length-set st.guest i r ∙ t.slots in
      let s : SameBut i st.guest (set st.guest i r) = λ x m. get_or-set_other st.guest i x r FREE m in
      rw (t.guests, t.dirties) (tied_use i (set st.guest i r) (set st.dirty i false) l e s)

  held_same : (r : ℕ) → is_held_stamp st r ≡ is_held rc r
  held_same r = ap (λ g. ltb (position r g) 8) (sym t.guests)

  tied_seated : (r : ℕ) → Tied (suc n) (seated_stamp st r) (seated rc r)
  unfolding seated_stamp seated
  tied_seated r = by (is_held rc r) refl
    where
      p : ℕ
      p = position r rc.guest

      by : (h : Bool) → is_held rc r ≡ h
          → Tied (suc n) (pick (is_held_stamp st r) (touch_stamp (position r st.guest) st) (assign_stamp (chosen_stamp st) r st))
          (pick (is_held rc r) (touch (position r rc.guest) rc) (assign (chosen rc) r rc))
      by true e =
          let z : Tied (suc n) (touch_stamp p st) (touch p rc) = tied_touch p (ltb-true p 8 e) in
          rw (held_same r, e) (subst (λ i. Tied (suc n) (touch_stamp i st) (touch p rc)) (ap (position r) t.guests) z)
      by false e = rw (held_same r, e, ← same_chosen t (omega arith)) (tied_assign (chosen rc) r (chosen_lt rc))

  same_slot : (r : ℕ) → slot_stamp st r ≡ slot_for rc r
  unfolding slot_stamp slot_for
  same_slot r = rw (same_chosen t (omega arith), t.guests)

  tied_stored : (r : ℕ) → Tied (suc n) (stored_stamp st r) (stored rc r)
  unfolding stored_stamp stored
  tied_stored r = rw (same_slot r) (tied_mark (tied_seated r) (slot_for rc r))

pub tied_all : (es : List Event) (n : ℕ) (st : Stamps) (rc : RegCache) → n + uses es < 2 ^ 32
    → Tied n st rc → Tied (n + uses es) (behind_all_stamp es st) (behind_all es rc)
unfolding behind_all behind_all_stamp
tied_all [] n st rc b t = subst (λ m. Tied m st rc) (omega arith) t
tied_all (reads r ∷ es) n st rc b t =
    subst (λ m. Tied m (behind_all_stamp es (seated_stamp st r)) (behind_all es (seated rc r))) (omega arith)
    (tied_all es (suc n) _ _ (omega arith) (tied_seated t (omega arith) r))
tied_all (writes r ∷ es) n st rc b t =
    subst (λ m. Tied m (behind_all_stamp es (stored_stamp st r)) (behind_all es (stored rc r))) (omega arith)
    (tied_all es (suc n) _ _ (omega arith) (tied_stored t (omega arith) r))
tied_all (releases i u ∷ es) n st rc b t = tied_all es n _ _ b (tied_release t i u)

pub tied_empty : Tied 0 empty_stamps empty_cache
tied_empty =
    record {
      guests = refl;
      dirties = refl;
      slots = refl;
      stamps = refl;
      clock = refl;
      low = λ x h. absurd (h (none x));
      sorted = sorted-map before empty_cache.order apart;
      once = once-empty;
    }
  where
    none : (x : ℕ) → get_or empty_stamps.guest x FREE ≡ FREE
    none x = by (ltb x 8) refl
      where
        by : (c : Bool) → ltb x 8 ≡ c → get_or empty_stamps.guest x FREE ≡ FREE
        by true h = get_or-replicate 8 x FREE FREE (ltb-true x 8 h)
        by false h = get_or-eq_default empty_stamps.guest FREE (ltb-false x 8 h)

    before : (x y : ℕ) → x ≢ y → Before empty_stamps.guest empty_stamps.used x y
    before x y d = (d, λ p q. absurd (p (none x)))

    apart : Sorted (λ x y. x ≢ y) empty_cache.order
    apart = (omega arith, (omega arith, (omega arith, (omega arith, (omega arith, (omega arith, (omega arith, (tt, tt))))))))

-- ---- the sentences
lowest-free : (rc : RegCache) → LowestFree rc
unfolding chosen
lowest-free rc i l e f =
    let k : i < length rc.guest = inside in
    let p : position FREE rc.guest ≡ i = position_first FREE rc.guest i k e f in
    rw (p, lt-ltb i 8 l)
  where
    inside : i < length rc.guest
    inside = by (ltb i (length rc.guest)) refl
      where
        by : (c : Bool) → ltb i (length rc.guest) ≡ c → i < length rc.guest
        by true h = ltb-true i (length rc.guest) h
        by false h = absurd (omega (arith, get_or-eq_default rc.guest 0 (ltb-false i (length rc.guest) h)))

first_of : (rc : RegCache) → EachOnce rc.order → oldest rc ≡ get_or rc.order 0 0
unfolding oldest
first_of rc h = by rc.order h
  where
    by : (xs : List ℕ) → EachOnce xs → get_or xs 0 0 % 8 ≡ get_or xs 0 0
    by [] o = refl
    by (x ∷ xs) o = mod-eq_of_lt (head_lt x xs o)

pub recency : (es : List Event) → Recency es
recency es =
    record {
      once = once_all es empty_cache once-empty;
      first = first_of (behind_all es empty_cache) (once_all es empty_cache once-empty);
      lowest-free = lowest-free (behind_all es empty_cache);
      same = λ b. same (omega arith) (tied_all es 0 empty_stamps empty_cache (omega arith) tied_empty);
    }
  where
    same : {n : ℕ} {st : Stamps} {rc : RegCache} → n < 2 ^ 32 → Tied n st rc → SameChoice rc st
    same b t = record { guests = t.guests; dirties = t.dirties; taken = same_chosen t b; given_up = same_oldest t b }
