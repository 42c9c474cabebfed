-- The network: in every run, whatever its sources send, each frame stands in the queue of its own hop or on the cable behind it, and each link keeps the number of its levels.
-- A queue takes in only what reaches it, a cable what has left its link. Induction over instants. Assumes nothing.
use Prim.Native.Nat.{ℕ, zero, suc, ◌+◌, ◌*◌}
use Rattle.std.specs.Prelude.{◌≡◌, true}
use Rattle.std.proofs.Common.{sym, ◌∙◌}
use Rattle.std.proofs.Math.Path.{ap}
use Rattle.std.proofs.lemmas.Bool.{false≢true}
use mathlib.Core.List.{List, map}
use Rattle.std.proofs.Math.Option.{Option, none, some}
use Rattle.std.proofs.Math.ListN.{length, get_elem?}
use Rattle.model.specs.Words.{All, and_then}
use Rattle.model.specs.QueueTable.{Table}
use Rattle.model.specs.Orders.{Hop, Flow}
use Rattle.model.specs.Aggregates.{link_at, speed_of, fixed_delay_of}
use Rattle.model.proofs.Laws.Aggregates.{same-hop}
use Rattle.model.specs.Run.{Frame, Run, hop_of, next, handed_on, moving, is_at, reaching, enter, empty_link}
use Rattle.model.specs.Delivery.{on_cable}
use Rattle.model.proofs.Laws.Part.{perm-part, all-part}
use Rattle.model.proofs.Laws.All.{all-imp, all_append, map-all, filter-all, member-all}
use Rattle.model.proofs.Laws.Run.Cables.{since-all, handed-all}
use Rattle.model.proofs.Laws.Run.OneLink.{Each}
use Rattle.model.proofs.Laws.Run.EachFrame.{interval-each, enter-each, empty-each, interval-count, append-count}

abbrev pub hop : (link level : ℕ) → Hop
hop link level = record { link = link; level = level }

-- What moves at instant `x` of a run.
abbrev pub moved : {t : Table} {fs : List Flow} → Run t fs → ℕ → List Frame
moved {t} r x = moving t r.before x (r.sent x)

-- The path of its flow has a frame's hop.
pub known-hop : (fs : List Flow) (f : Frame) (fl : Flow) → get_elem? fs f.flow ≡ some fl → hop_of fs f ≡ get_elem? fl.path f.hop
unfolding hop_of
known-hop fs f fl e = ap (λ o. and_then o (λ fl. get_elem? fl.path f.hop)) e

at-hop : (q : Hop) (o : Option Hop) → is_at q o ≡ true → o ≡ some q
at-hop q none e = absurd (false≢true e)
at-hop q (some h) e = ap some (sym (same-hop q h e))

module _ (t : Table) (fs : List Flow) (r : Run t fs) where
  -- What moves at instant `x` left a link the time of its cable ago, or is sent now.
  pub moved_all : (P : Frame → Type 0) (x : ℕ) → ((n y : ℕ) → y + fixed_delay_of (link_at t n) ≡ x → All (λ f. P (next x f)) (r.before y n).left)
      → All P (r.sent x) → All P (moved r x)
  unfolding moving
  moved_all P x left sent =
      let handed : List Frame = handed_on t r.before x (length t) in
      all_append P (map (next x) handed) (r.sent x)
      (map-all P (next x) handed (handed-all (λ f. P (next x f)) r.before t x left (length t)))
      sent

  -- What reaches a queue is some of what moves, and the queue is its own.
  pub arrivals-all : (P : Frame → Type 0) (x : ℕ) → All P (moved r x)
      → (n level : ℕ) → All (λ f. P f × (hop_of fs f ≡ some (hop n level))) (r.arrivals x n level)
  unfolding reaching
  arrivals-all P x a n level =
      all-part (λ f. P f × (hop_of fs f ≡ some (hop n level))) (perm-part (r.any_order x (hop n level)))
      (all-imp (reaching fs (hop n level) (moved r x)) (λ f p. (p.0, at-hop (hop n level) (hop_of fs f) p.1))
      (filter-all P (λ f. is_at (hop n level) (hop_of fs f)) (moved r x) a))

  abbrev pub Stands : (link level : ℕ) → Frame → Type 0
  Stands n level f = hop_of fs f ≡ some (hop n level)

  after-stands : (x n : ℕ) → Each (Stands n) (r.before x n) → Each (Stands n) (r.after x n)
  after-stands x n each =
      rw (r.enters x n)
      (enter-each (Stands n) (r.arrivals x n) (r.before x n)
      (λ level. all-imp (r.arrivals x n level) (λ f p. p.1)
      (arrivals-all (λ f. Unit {0}) x (member-all (λ f. Unit {0}) (moved r x) (λ f m. tt)) n level))
      each.wire each.levels)

  pub stands-before : (x n : ℕ) → Each (Stands n) (r.before x n)
  stands-before zero n = rw (r.starts n) (empty-each (Stands n) (link_at t n))
  stands-before (suc x) n =
      rw (r.serves x n) (interval-each (Stands n) r.grain (r.offered x n) (r.grain * speed_of (link_at t n)) (r.after x n) (after-stands x n (stands-before x n)))

  pub stands : (x n : ℕ) → Each (Stands n) (r.after x n)
  stands x n = after-stands x n (stands-before x n)

  -- On the cable of a link are only frames that stood in one of its queues.
  pub stands-cable : (x n : ℕ) → All (λ f. (level : ℕ) × Stands n level f) (on_cable r x n)
  unfolding on_cable
  stands-cable x n =
      since-all (λ f. (level : ℕ) × Stands n level f) r.before n x (fixed_delay_of (link_at t n)) (λ y u v. (stands-before y n).left)

  pub level-count : (x n : ℕ) → length (r.before x n).levels ≡ length (empty_link (link_at t n)).levels
  unfolding enter
  level-count zero n = ap (λ l. length l.levels) (r.starts n)
  level-count (suc x) n =
      rw (r.serves x n)
      (interval-count (length (empty_link (link_at t n)).levels) r.grain (r.offered x n) (r.grain * speed_of (link_at t n)) (r.after x n)
      (rw (r.enters x n) (append-count (r.arrivals x n) 1 (r.before x n).levels ∙ level-count x n)))
