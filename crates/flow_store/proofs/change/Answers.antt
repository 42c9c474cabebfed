-- `flow_store::change` meets its contract: its two stores change the slot's rate and burst, and no count.
use Rattle.std.proofs.Common.{◌≡◌, ℕ, ◌+◌, ◌*◌, ◌<◌, Bool, true, false, cond, List, length, get_or, set, sym, refl, ap, ◌∙◌, arith, length-set, get_or-set_other, get_or-set_same, drop-set-lt}
use mathlib.Core.Option.{none}
use Rattle.model.specs.Sizes.{slot_count}
use Rattle.model.specs.Orders.{Flow, Change}
use Rattle.model.specs.Reference.{changed, changed_slot}
use Rattle.orders.specs.View.{change_of}
use Rattle.bit_words.specs.View.{is_set}
use Rattle.flow_store.specs.View.{slot_numbers, store_numbers, rate_position, burst_position, frame_position, deadline_position, hops_position, start_position, pool_of, start_at, count_at, flow_at, entries_in, flow_in, slot_of, slots_of, PackedStore}
use Rattle.flow_store.specs.Laws.{slot_at, slot-alone}
use Rattle.flow_store.proofs.ChangeLaws.{SameAt, counts-changed, starts-changed, slot-put}
use Rattle.flow_store.proofs.change.Goals as goal

slot-of : (c : Change) (held : Bool) (f : Flow) → slot_of held (changed c f) ≡ changed_slot c (slot_of held f)
unfolding slot_of changed_slot
slot-of c true f = refl
slot-of c false f = refl

module _ (k : ℕ) (c : Change) (bits store : List ℕ) (inside : k < slot_count) (long : length store ≡ store_numbers) where
  abbrev rated : List ℕ
  rated = set store (rate_position k) c.rate

  abbrev stored : List ℕ
  stored = set rated (burst_position k) c.burst

  -- Every number but these two is as it was.
  kept : (j : ℕ) → (j ≡ rate_position k → ⊥) → (j ≡ burst_position k → ⊥) → get_or stored j 0 ≡ get_or store j 0
  kept j rate burst = get_or-set_other rated (burst_position k) j c.burst 0 burst ∙ get_or-set_other store (rate_position k) j c.rate 0 rate

  others : (i : ℕ) → i < slot_count → (i ≡ k → ⊥) → SameAt bits store bits stored i
  others i h other = (refl, λ r few. kept (slot_count * r + i) (λ e. other (omega arith)) (λ e. other (omega arith)))

  start : (i : ℕ) → i < slot_count → start_at stored i ≡ start_at store i
  start i h = kept (start_position i) (λ e. omega arith) (λ e. omega arith)

  count : count_at bits stored k ≡ count_at bits store k
  unfolding count_at
  count = ap (λ n. cond (is_set bits k) n 0) (kept (hops_position k) (λ e. omega arith) (λ e. omega arith))

  flow : (entries : List ℕ) → flow_at stored k entries ≡ changed c (flow_at store k entries)
  unfolding flow_at changed
  flow entries =
      λ t.
      record {
        number = kept k (λ e. omega arith) (λ e. omega arith) t;
        rate = (get_or-set_other rated (burst_position k) (rate_position k) c.burst 0 (λ e. omega arith) ∙ get_or-set_same store (rate_position k) c.rate 0 (omega (arith, long))) t;
        burst = get_or-set_same rated (burst_position k) c.burst 0 (omega (arith, length-set store (rate_position k) c.rate, long)) t;
        frame = kept (frame_position k) (λ e. omega arith) (λ e. omega arith) t;
        deadline = kept (deadline_position k) (λ e. omega arith) (λ e. omega arith) t;
        path = (flow_at store k entries).path;
      }

  behind : pool_of stored ≡ pool_of store
  behind = drop-set-lt slot_numbers rated (burst_position k) c.burst (omega arith) ∙ drop-set-lt slot_numbers store (rate_position k) c.rate (omega arith)

  entries : (i : ℕ) → i < slot_count → entries_in stored i ≡ entries_in store i
  entries i h = rw (behind, start i h, kept (hops_position i) (λ e. omega arith) (λ e. omega arith))

  seen : slots_of bits stored ≡ set (slots_of bits store) k (changed_slot c (get_or (slots_of bits store) k none))
  seen =
      slot-put bits store bits stored k _ inside
      (ap (slot_of (is_set bits k)) (ap (flow_at stored k) (entries k inside) ∙ flow (entries_in store k))
      ∙ slot-of c (is_set bits k) (flow_in store k)
      ∙ ap (changed_slot c) (sym (slot_at bits store k inside)))
      (λ i h other. slot-alone bits store bits stored i refl (λ held. (λ r few. (others i h other).1 r (omega arith), entries i h)))

  packed-still : PackedStore bits store → PackedStore bits stored
  packed-still s =
      record {
        bits-long = s.bits-long;
        store_long = length-set rated (burst_position k) c.burst ∙ length-set store (rate_position k) c.rate ∙ s.store_long;
        packed = record {
          fits = omega (arith, counts-changed bits store bits stored k inside others, count, s.packed.fits);
          starts = starts-changed bits store bits stored k inside others s.packed (λ i lt. start i (omega (arith, inside)))
              (λ i gt h held. omega (arith, start i h, count)) (λ held. start k inside ∙ s.packed.starts k inside held);
        };
      }

pub bounds-store-slot-2 : goal.bounds-store-slot-2
bounds-store-slot-2 c = simp length-set (omega arith)

pub returns : goal.returns
returns c =
    let args = c.args in
    let pre = c.requires in
    let given = change_of args.given in record { by_index = λ bits. seen args.slot given bits args.store.now pre.0 pre.1; by_index_2 = λ bits. packed-still args.slot given bits args.store.now pre.0 pre.1 }
