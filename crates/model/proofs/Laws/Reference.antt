-- One order on the reference model: a refusal is the first cause and changes nothing, an admission fills the lowest free slot, a release empties
-- the slot of the named flow, a change fills it with the flow so changed. By cases on the first cause, whose code is never 0. Assumes nothing.
use Rattle.std.specs.Prelude.{ℕ, ◌+◌, ◌≤◌, ◌<◌, ◌≡◌, refl, Bool, true, false, not, ◌↔◌, length, eqb}
use Rattle.std.proofs.Common.{ap, sym, ◌∙◌, subst, true≢false, ⊎_elim, arith, eqb-true, ne_eqb, ltb-false, leb-false}
use Rattle.std.proofs.lemmas.Bool.{false≢true, eqb-false, not-true}
use mathlib.Core.List.{List, [], ◌∷◌, ◌++◌, Memᴰ}
use Rattle.std.proofs.Math.Option.{Option, none, some, some-ne-none, some-injective}
use Rattle.std.proofs.Math.ListN.{get_elem?}
use Rattle.model.specs.Words.{All, every, first_index, is_none}
use Rattle.model.specs.Orders.{Hop, Flow, Change, Order, register, release, change, rejected, registering, kind_number}
use Rattle.model.specs.Sizes.{hop_entries}
use Rattle.model.specs.Reference.{Slot, State, Cause, held_flows, held_hops, with_number, is_held, holds, first_cause, whole, number_finding, line_findings, deadline_finding, room_findings, link_findings, register_findings, index_of, slot_with, changed_slot, change_findings, findings, refuse, fill, perform, decide, apply, Call, call_order, step}
use Rattle.model.specs.Codes.{line_codes, held_codes, burst_codes, register_codes, plain_codes, hop_codes, link_codes, queue_codes, cause_codes, order_codes, hops_of, path_in, path_of, OnPath, Names, nothing, hop, link, queue}
use Rattle.model.specs.Consistent.{flow_in_range}
use Rattle.model.specs.Outcomes as Outcomes
use Rattle.model.specs.Outcomes.{NoneApplies, NoneOthers, Refused, Admitted, Released, Changed, Done, admission}
use Rattle.model.proofs.Laws.Test.{every-all}
use Rattle.model.proofs.Laws.All.{member-at, member-all, all-member, all_append, append-all}
use Rattle.model.proofs.Laws.Finding.{first-listed, none-applies, applies-none, Caused, whole-caused, hop-caused, first-caused, whole-none, is-none}
use Rattle.model.proofs.Laws.LinkMeets.{findings-caused}
use Rattle.model.proofs.Laws.Slot.{index_below, index-found, index-first, number-found, held-inside}
use Rattle.model.proofs.Laws.Order.{Readable, call-readable}

pub refused : (s : State) (o : Order) → ((apply s o).answer.code ≡ 0 → ⊥) → Refused s o (apply s o)
unfolding apply decide perform refuse fill findings first_cause whole
refused s o h = go o (first_cause (findings s o)) refl h
  where
    go : (o : Order) (x : Option Cause) → first_cause (findings s o) ≡ x → ((decide s o x).answer.code ≡ 0 → ⊥) → Refused s o (apply s o)
    go o (some c) e h = record { cause = c; first = first-listed (findings s o) e; answer = ap (λ x. (decide s o x).answer) e; next = ap (λ x. (decide s o x).next) e }
    go (register f) none e h = absurd (h refl)
    go (release n) none e h = absurd (h refl)
    go (change c) none e h = absurd (h refl)
    go (rejected code) none e h = absurd (some-ne-none _ e)

-- With no cause the order is performed; a code of 0 says that there is none.
pub performed : (s : State) (o : Order) → NoneApplies (findings s o) → apply s o ≡ perform s o
unfolding apply decide
performed s o a = ap (decide s o) (applies-none (findings s o) a)

-- Every cause against an order names what is listed for its code.
module _ (s : State) (o : Order) where
  plain : (i : ℕ) {code : ℕ} → get_elem? (plain_codes o) i ≡ some code → Names s o (record { code = code; link = 0; level = 0 })
  plain i e = nothing (member-at (plain_codes o) i e) refl refl

  -- What holds of each listed code holds of a cause's.
  pub named-coded : (P : ℕ → Type 0) → All P cause_codes → (c : Cause) → Names s o c → P c.code
  named-coded P all c n =
      let (others, queues) = append-all P (line_codes ++ held_codes ++ burst_codes ++ register_codes ++ hop_codes ++ link_codes) queue_codes all in
      let (unlinked, links) = append-all P (line_codes ++ held_codes ++ burst_codes ++ register_codes ++ hop_codes) link_codes others in
      let (plains, hops) = append-all P (line_codes ++ held_codes ++ burst_codes ++ register_codes) hop_codes unlinked in
      elim n [
        | nothing m e₁ e₂ ↦ all-member P (go o plains) m
        | hop m on ↦ all-member P hops m
        | link m on k e₁ e₂ ↦ all-member P links m
        | queue m on q e ↦ all-member P queues m
      ]
    where
      go : (o : Order) → All P (line_codes ++ held_codes ++ burst_codes ++ register_codes) → All P (plain_codes o)
      go (register f) a = a.1.1.1
      go (release k) a = (a.1.1.0, tt)
      go (change c) a = (a.1.1.0, (a.1.1.1.0, tt))
      go (rejected code) a = (a.0, (a.1.0, tt))

  -- Along the path whose links are checked.
  links-named : (fs : List Flow) (path : List Hop) → path_of s.slots o ≡ path → All (Caused (Names s o)) (link_findings s.table fs path)
  links-named fs path is =
      findings-caused s.table fs (Names s o) path (λ h on k e. link (member-at link_codes 0 refl) (on-path h on) k e refl)
      (λ h on p q e. (queue (member-at queue_codes 0 refl) (on-path h on) q e, (queue (member-at queue_codes 1 refl) (on-path h on) q e, tt)))
    where
      on-path : (h : Hop) → Memᴰ h path → OnPath (path_of s.slots o) h.link
      on-path h on = subst (λ l. OnPath l h.link) (sym is) (record { hop = h; member = on; same = refl })

at-hop : (s : State) (f : Flow) (i : ℕ) {code : ℕ} → get_elem? hop_codes i ≡ some code
    → All (λ h. Names s (register f) (record { code = code; link = h.link; level = h.level })) f.path
unfolding hops_of
at-hop s f i e = member-all _ f.path (λ h on. hop (member-at hop_codes i e) on)

pub order-named : (s : State) (o : Order) (kind : ℕ) → Readable kind o → All (Caused (Names s o)) (findings s o)
unfolding findings register_findings number_finding line_findings deadline_finding room_findings path_in path_of change_findings
order-named s (register f) kind r =
    let o = register f in
    let P = Names s o in (
      whole-caused P 12 _ (plain s o 1 refl),
      (
        whole-caused P 17 _ (plain s o 0 refl),
        (
          hop-caused P 14 _ [] f.path (at-hop s f 0 refl),
          (
            hop-caused P 16 _ [] f.path (at-hop s f 2 refl),
            (
              hop-caused P 15 _ [] f.path (at-hop s f 1 refl),
              (
                whole-caused P 20 _ (plain s o 2 refl),
                (whole-caused P 30 _ (plain s o 3 refl), (whole-caused P 31 _ (plain s o 4 refl), links-named s o _ f.path refl)),
              ),
            ),
          ),
        ),
      ),
    )
order-named s (release n) kind r = (whole-caused (Names s (release n)) 13 _ (plain s (release n) 0 refl), tt)
order-named s (change c) kind r = go (slot_with c.number s.slots) refl
  where
    go : (x : Slot) → slot_with c.number s.slots ≡ x → All (Caused (Names s (change c))) (change_findings s c x)
    go none e = (whole-caused (Names s (change c)) 13 true (plain s (change c) 0 refl), tt)
    go (some f) e = (whole-caused (Names s (change c)) 17 _ (plain s (change c) 1 refl), links-named s (change c) _ f.path (ap path_in e))
order-named s (rejected code) kind r = (
  whole-caused (Names s (rejected code)) code true
      (⊎_elim (λ e. rw e (plain s (rejected 10) 0 refl)) (λ e. rw e (plain s (rejected 11) 1 refl)) r),
  tt,
)

-- What holds of 0 and of each listed code holds of every answer, on any state.
order-coded : (P : ℕ → Type 0) → All P order_codes → (s : State) (o : Order) (kind : ℕ) → Readable kind o → P (apply s o).answer.code
unfolding apply decide perform refuse fill findings first_cause whole
order-coded P all s o kind r = go o (first_cause (findings s o)) refl (first-caused _ (findings s o) (order-named s o kind r))
  where
    go : (o : Order) (x : Option Cause) → first_cause (findings s o) ≡ x → Caused (Names s o) x → P (decide s o x).answer.code
    go o (some c) e n = named-coded s o P all.1 c n
    go (register f) none e n = all.0
    go (release k) none e n = all.0
    go (change c) none e n = all.0
    go (rejected code) none e n = absurd (some-ne-none _ e)

abbrev is_other : (k n : ℕ) → Bool
is_other k n = not (eqb n k)

other-code : (k n : ℕ) → is_other k n ≡ true → n ≡ k → ⊥
other-code k n e = eqb-false n k (not-true (eqb n k) e)

pub no-cause : (s : State) (o : Order) (kind : ℕ) → Readable kind o → (apply s o).answer.code ≡ 0 → NoneApplies (findings s o)
unfolding apply decide refuse every
no-cause s o kind r z = go (first_cause (findings s o)) refl (first-caused _ (findings s o) (order-named s o kind r)) z
  where
    go : (x : Option Cause) → first_cause (findings s o) ≡ x → Caused (Names s o) x → (decide s o x).answer.code ≡ 0
        → NoneApplies (findings s o)
    go none e c z = none-applies (findings s o) e
    go (some cause) e c z =
        absurd (other-code 0 cause.code (named-coded s o (λ n. is_other 0 n ≡ true) (every-all (is_other 0) cause_codes refl) cause c) z)

-- 42 isn't among its answers, on any state.
pub never-spoilt : (s : State) (c : Call) → (step s c).answer.code ≡ 42 → ⊥
unfolding step every
never-spoilt s c =
    other-code 42 _ (order-coded (λ n. is_other 42 n ≡ true) (every-all (is_other 42) order_codes refl) s (call_order c) (kind_number c.kind) (call-readable c))

-- No cause against a registration, group by group.
pub record RegisterRules (s : State) (f : Flow) : Type 0 where
  pub others : NoneOthers s f
  pub deadline : deadline_finding s.table f ≡ none
  pub links : NoneApplies (link_findings s.table (f ∷ held_flows s.slots) f.path)

module _ (s : State) (f : Flow) where
  front : List (Option Cause)
  front = number_finding (held_flows s.slots) f ∷ line_findings s.table f

  pub register-rules : NoneApplies (register_findings s f) → RegisterRules s f
  unfolding register_findings front
  register-rules a =
      let (before, links) = append-all (λ x. x ≡ none) (front ++ deadline_finding s.table f ∷ room_findings s.slots f) _ a in
      let (early, late) = append-all (λ x. x ≡ none) front _ before in
      record { others = record { number = early.0; line = early.1; room = late.1 }; deadline = late.0; links = links }

  pub rules-register : RegisterRules s f → NoneApplies (register_findings s f)
  unfolding register_findings front
  rules-register r =
      all_append (λ x. x ≡ none) (front ++ deadline_finding s.table f ∷ room_findings s.slots f) _
      (all_append (λ x. x ≡ none) front _ (r.others.number, r.others.line) (r.deadline, r.others.room))
      r.links

-- 12: no held flow has the number. 30: a slot is free. 31: the hop entries suffice.
pub number-new : (held : List Flow) (f : Flow) → number_finding held f ≡ none → with_number f.number held ≡ 0
unfolding number_finding
number-new held f e = omega (arith, leb-false 1 (with_number f.number held) (whole-none 12 _ e))

pub slot-free : (slots : List Slot) (f : Flow) → NoneApplies (room_findings slots f) → every is_held slots ≡ false
unfolding room_findings
slot-free slots f a = whole-none 30 _ a.0

pub hops-free : (slots : List Slot) (f : Flow) → NoneApplies (room_findings slots f)
    → held_hops (held_flows slots) + length f.path ≤ hop_entries
unfolding room_findings
hops-free slots f a = ltb-false _ _ (whole-none 31 _ a.1.0)

admitted : (s : State) (f : Flow) → RegisterRules s f → Admitted s f (perform s (register f))
unfolding perform fill is_held is_none
admitted s f r =
    let h : first_index is_none s.slots < length s.slots = index_below is_none s.slots (slot-free s.slots f r.others.room) in
    record {
      index = first_index is_none s.slots;
      inside = h;
      free = is-none _ (index-found is_none none s.slots h);
      lowest = λ j low e. true≢false (sym (ap is_none e) ∙ index-first is_none none s.slots j low);
      answer = refl;
      next = refl;
    }

held-there : (n : ℕ) (x : Slot) → holds n x ≡ true → (f : Flow) × (x ≡ some f) × (f.number ≡ n)
unfolding holds
held-there n none e = absurd (false≢true e)
held-there n (some f) e = (f, refl, eqb-true _ _ e)

released : (s : State) (n : ℕ) → NoneApplies (findings s (release n)) → Released s n (perform s (release n))
unfolding perform fill findings
released s n a =
    let there : 1 ≤ with_number n (held_flows s.slots) = omega (arith, eqb-false (with_number n (held_flows s.slots)) 0 (whole-none 13 _ a.0)) in
    let h : first_index (holds n) s.slots < length s.slots = index_below (holds n) s.slots (number-found n s.slots there) in
    let (flow, held, number) = held-there n _ (index-found (holds n) none s.slots h) in
    record {
      index = first_index (holds n) s.slots;
      inside = h;
      flow = flow;
      held = held;
      number = number;
      answer = refl;
      next = refl;
    }

pub change-done : (s : State) (c : Change) → NoneApplies (findings s (change c)) → Changed s c (perform s (change c))
unfolding perform fill findings change_findings changed_slot whole
change-done s c a = go (slot_with c.number s.slots) refl a
  where
    go : (x : Slot) → slot_with c.number s.slots ≡ x → NoneApplies (change_findings s c x) → Changed s c (fill s (index_of c.number s.slots) (changed_slot c x))
    go none e a = absurd (some-ne-none _ a.0)
    go (some f) e a =
        let h = held-inside s.slots (index_of c.number s.slots) e in
        let (flow, held, number) = held-there c.number _ (index-found (holds c.number) none s.slots h) in
        record {
          index = index_of c.number s.slots;
          inside = h;
          flow = f;
          held = e;
          number = ap (λ (f : Flow). f.number) (some-injective _ _ (sym e ∙ held)) ∙ number;
          answer = refl;
          next = refl;
        }

-- A release answers 0 exactly when its flow number is held.
pub released-exactly : (s : State) (n : ℕ) → ((apply s (release n)).answer.code ≡ 0) ↔ (1 ≤ with_number n (held_flows s.slots))
unfolding apply decide perform refuse fill findings first_cause whole
released-exactly s n = (to (eqb count 0) refl, λ h. rw (ne_eqb count 0 (λ e. omega (arith, e))) refl)
  where
    count : ℕ
    count = with_number n (held_flows s.slots)

    to : (b : Bool) → eqb count 0 ≡ b → (decide s (release n) (first_cause (whole 13 b ∷ []))).answer.code ≡ 0 → 1 ≤ count
    to true e z = absurd (omega (arith, z))
    to false e z = omega (arith, eqb-false count 0 e)

-- A code of 0 says that there is no cause, and no cause gives 0.
pub zero-exactly : (s : State) (o : Order) (kind : ℕ) → Readable kind o → (perform s o).answer.code ≡ 0
    → ((apply s o).answer.code ≡ 0) ↔ NoneApplies (findings s o)
zero-exactly s o kind r z = (no-cause s o kind r, λ a. ap (λ out. out.answer.code) (performed s o a) ∙ z)

pub registered-zero : (s : State) (f : Flow) → flow_in_range f ≡ true → ((apply s (register f)).answer.code ≡ 0) ↔ RegisterRules s f
unfolding findings perform fill
registered-zero s f range =
    let (passed, zero) = zero-exactly s (register f) (kind_number registering) (refl, range) refl in
    (λ z. register-rules s f (passed z), λ r. zero (rules-register s f r))

-- An order that answers 0 was carried out.
pub done : (s : State) (o : Order) (kind : ℕ) → Readable kind o → (apply s o).answer.code ≡ 0 → Done s o (apply s o)
unfolding findings whole
done s o kind r z = subst (Done s o) (sym (performed s o none)) (go o none)
  where
    none : NoneApplies (findings s o)
    none = no-cause s o kind r z

    go : (o : Order) → NoneApplies (findings s o) → Done s o (perform s o)
    go (register f) a = admission f refl (admitted s f (register-rules s f a))
    go (release n) a = Outcomes.release n refl (released s n a)
    go (change c) a = Outcomes.change c refl (change-done s c a)
    go (rejected code) a = absurd (some-ne-none _ a.0)

-- No order changes the table.
pub same-table : (s : State) (o : Order) → (apply s o).next.table ≡ s.table
unfolding apply decide perform refuse fill
same-table s o = go o (first_cause (findings s o))
  where
    go : (o : Order) (x : Option Cause) → (decide s o x).next.table ≡ s.table
    go o (some c) = refl
    go (register f) none = refl
    go (release n) none = refl
    go (change c) none = refl
    go (rejected code) none = refl
