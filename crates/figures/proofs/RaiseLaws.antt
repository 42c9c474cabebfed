-- The loop that raises the largest frames along a path: the figures so far, raised by what the hops left have, are the whole.
-- A path's largest frame at a queue doesn't depend on S along it. Assumes nothing.
use Prim.Native.Nat.{ℕ, ◌+◌, ◌*◌, ◌≤◌, ◌<◌, max}
use mathlib.Core.Path.{◌≡◌, refl, sym, ap, ◌∙◌}
use mathlib.Core.Bool.{cond}
use mathlib.Core.List.{List, [], ◌∷◌, map}
use native.Mathlib.Omega.{arith}
use native.Mathlib.Numerals.{add-one}
use native.Mathlib.Decide.{ℕ_discrete}
use lib.ListN.{length, get_or, set, drop, length-set, drop_of_length-le}
use lib.Seq.{drop-cons, get_or-set_same, get_or-set_other, set-get_or}
use Rattle.model.specs.Total.{largest}
use Rattle.model.specs.Orders.{Flow}
use Rattle.model.specs.Formula.{Aggregate}
use Rattle.model.specs.QueueTable.{Table}
use Rattle.model.specs.Aggregates as model
use Rattle.model.specs.Aggregates.{shares_at}
use Rattle.model.proofs.Laws.Aggregates.{hop-same}
use Rattle.model.proofs.Laws.Figures.{aggregate-alone}
use Rattle.queue_table.specs.View.{hop_at}
use Rattle.figures.specs.View.{own_numbers, burst_position, frame_position, figure_numbers, figure_at, raised, FrameRaised}
use Rattle.figures.proofs.EntryLaws.{other-entry}

-- The largest frame that a hop at queue `x` has at queue `e`, and that the hops of a path have there.
abbrev pub hop_frame : (frame e x : ℕ) → ℕ
hop_frame frame e x = cond (model.same_hop (hop_at e) (hop_at x)) frame 0

abbrev pub frame_at : (frame : ℕ) (entries : List ℕ) (e : ℕ) → ℕ
frame_at frame entries e = largest (hop_frame frame e) entries

frame-entries : (t : Table) (f : Flow) (sum : ℕ) (entries : List ℕ) (e : ℕ)
    → (shares_at (hop_at e) (model.shares t f sum (map hop_at entries))).frame ≡ frame_at f.frame entries e
unfolding shares_at model.shares model.adds_at largest
frame-entries t f sum [] e = refl
frame-entries t f sum (x ∷ entries) e =
    ap (max (hop_frame f.frame e x)) (frame-entries t f (sum + model.growth t (hop_at x)) entries e)

frame-alone : (t : Table) (f : Flow) (entries : List ℕ) → f.path ≡ map hop_at entries → (e : ℕ)
    → (model.aggregate_at t (f ∷ []) (hop_at e)).frame ≡ frame_at f.frame entries e
frame-alone t f entries path e =
    ap (λ (a : Aggregate). a.frame) (aggregate-alone t f (hop_at e) ∙ ap (λ l. shares_at (hop_at e) (model.shares t f 0 l)) path)
    ∙ frame-entries t f 0 entries e

pub raised-none : (a : Aggregate) → raised a 0 ≡ a
unfolding raised
raised-none a = λ i. record { rate = a.rate; burst = a.burst; frame = most i }
  where
    most : max a.frame 0 ≡ a.frame
    most = omega arith

pub raised-twice : (a : Aggregate) (m n : ℕ) → raised (raised a m) n ≡ raised a (max m n)
unfolding raised
raised-twice a m n = λ i. record { rate = a.rate; burst = a.burst; frame = most i }
  where
    most : max (max a.frame m) n ≡ max a.frame (max m n)
    most = omega arith

-- The largest frame at queue `x` stored anew.
module _ (figures : List ℕ) (x : ℕ) (inside : frame_position x < length figures) (frame : ℕ) where
  figure-raised : {largest : ℕ} → max (get_or figures (frame_position x) 0) frame ≡ largest → (e : ℕ) → Dec (e ≡ x)
      → figure_at (set figures (frame_position x) largest) e ≡ raised (figure_at figures e) (hop_frame frame e x)
  unfolding figure_at raised
  figure-raised {largest} most e (yes same) =
      rw (same, hop-same (hop_at x) (hop_at x) refl)
      (λ i.
      record {
        rate = get_or-set_other figures (frame_position x) (own_numbers * x) largest 0 (omega arith) i;
        burst = get_or-set_other figures (frame_position x) (burst_position x) largest 0 (omega arith) i;
        frame = (get_or-set_same figures (frame_position x) largest 0 inside ∙ sym most) i;
      })
  figure-raised {largest} most e (no other) =
      rw (other-entry e x other)
      ((λ i.
      record {
        rate = get_or-set_other figures (frame_position x) (own_numbers * e) largest 0 (omega arith) i;
        burst = get_or-set_other figures (frame_position x) (burst_position e) largest 0 (omega arith) i;
        frame = get_or-set_other figures (frame_position x) (frame_position e) largest 0 (omega arith) i;
      })
      ∙ sym (raised-none (figure_at figures e)))

  raised-stays : frame ≤ get_or figures (frame_position x) 0 → (e : ℕ) → figure_at figures e ≡ raised (figure_at figures e) (hop_frame frame e x)
  raised-stays le e =
      ap (λ l. figure_at l e) (sym (set-get_or figures (frame_position x) 0)) ∙ figure-raised (omega arith) e (ℕ_discrete e x)

-- The figures so far, `figures`, with the hops from `i` on left.
pub record Raising (frame : ℕ) (entries before figures : List ℕ) (i : ℕ) : Type 0 where
  pub long : length figures ≡ figure_numbers
  pub left : (e : ℕ) → raised (figure_at figures e) (frame_at frame (drop i entries) e) ≡ raised (figure_at before e) (frame_at frame entries e)

module _ (frame : ℕ) (entries before : List ℕ) where
  pub raising-none : length before ≡ figure_numbers → Raising frame entries before before 0
  raising-none long = record { long = long; left = λ e. refl }

  module _ {figures : List ℕ} {i : ℕ} (so_far : Raising frame entries before figures i) where
    pub raising-all : length entries ≤ i → FrameRaised frame entries before figures
    unfolding largest
    raising-all end =
        record {
          long = so_far.long;
          same = λ t f is path e lt.
              sym (raised-none (figure_at figures e))
              ∙ sym (ap (λ l. raised (figure_at figures e) (frame_at frame l e)) (drop_of_length-le entries {i = i} end))
              ∙ so_far.left e
              ∙ ap (raised (figure_at before e)) (sym (frame-alone t f entries path e ∙ ap (λ m. frame_at m entries e) is));
        }

    -- The hop at `i` is raised, whose largest frame stands at `place`.
    module _ (more : i < length entries) {place : ℕ} (there : (place ≡ frame_position (get_or entries i 0)) × (place < figure_numbers)) where
      abbrev x : ℕ
      x = get_or entries i 0

      next : {figures' : List ℕ} → length figures' ≡ figure_numbers → ((e : ℕ) → figure_at figures' e ≡ raised (figure_at figures e) (hop_frame frame e x))
          → Raising frame entries before figures' (i + 1)
      unfolding largest
      next {figures'} long same =
          let hops : drop i entries ≡ x ∷ drop (i + 1) entries = rw add-one (drop-cons entries i 0 more) in
          record {
            long = long;
            left = λ e.
                ap (λ a. raised a (frame_at frame (drop (i + 1) entries) e)) (same e)
                ∙ raised-twice (figure_at figures e) (hop_frame frame e x) (frame_at frame (drop (i + 1) entries) e)
                ∙ ap (λ l. raised (figure_at figures e) (frame_at frame l e)) (sym hops)
                ∙ so_far.left e;
          }

      pub raising-max : {largest : ℕ} → largest ≡ max (get_or figures place 0) frame → Raising frame entries before (set figures place largest) (i + 1)
      raising-max {largest} most =
          rw there.0
          (next (length-set figures (frame_position x) largest ∙ so_far.long)
          (λ e. figure-raised figures x (omega (arith, so_far.long, there)) frame (sym (rw there.0 at most)) e (ℕ_discrete e x)))

      pub raising-stays : frame ≤ get_or figures place 0 → Raising frame entries before figures (i + 1)
      raising-stays le = next so_far.long (raised-stays figures x (omega (arith, so_far.long, there)) frame (rw there.0 at le))
