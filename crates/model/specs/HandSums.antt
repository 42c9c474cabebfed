-- Document 01, "Sums to check by hand", the starred ones, and those of requests W-201, W-202, W-207 and W-208: 100 Mbit/s where no other speed is given, flows of rate 1,000, burst and frame 1,542.
-- That each comes out as given is shown in `Laws.HandSums`.
use Rattle.std.specs.Prelude.{ℕ, ◌*◌, List, [], ◌∷◌, map, get_or}
use Rattle.std.proofs.Math.Option.{Option, none, some}
use Rattle.model.specs.Sizes.{table_bytes}
use Rattle.model.specs.Formula.{Aggregate, ceil_div, delay, backlog}
use Rattle.model.specs.QueueTable.{Link, Table}
use Rattle.model.specs.Orders.{Hop, Flow}
use Rattle.model.specs.Aggregates.{shares}
use Rattle.model.specs.LinkCheck.{rate_code}
use Rattle.model.specs.Reference.{Cause, deadline_finding}
use Rattle.model.specs.WholeThresholds as before
use Rattle.model.specs.Gate.{time_passed, tokens_of}

unfoldable pub one : Aggregate
one = record { rate = 1000; burst = 1542; frame = 1542 }

unfoldable pub short : Aggregate
short = record { rate = 1000; burst = 84; frame = 84 }

unfoldable pub rate_only : ℕ → Aggregate
rate_only r = record { rate = r; burst = 0; frame = 0 }

-- Links of one level; those of a path with thresholds of 371, the last one's fixed delay given; that path behind another first link.
unfoldable pub link : (speed threshold fixed_delay : ℕ) → Link
link speed threshold fixed_delay =
    record { from = 1; to = 2; speed = speed; fixed_delay = fixed_delay; best_effort = 0; levels = record { threshold = threshold; buffer = 2000 } ∷ [] }

unfoldable pub links : (last : ℕ) → Table
links last = link 100 371 295 ∷ link 100 371 296 ∷ link 100 371 last ∷ []

unfoldable pub behind : (speed threshold : ℕ) → Table
behind speed threshold = link speed threshold 0 ∷ links 296

unfoldable pub along : List Hop
along = record { link = 1; level = 1 } ∷ record { link = 2; level = 1 } ∷ record { link = 3; level = 1 } ∷ []

unfoldable pub flow : Flow
flow = record { number = 7; rate = 1000; burst = 1542; frame = 1542; deadline = 2000; path = along }

-- The bursts of the flow at its hops, and by whole thresholds, before W-208.
unfoldable pub bursts : Table → List ℕ
bursts t = map (λ s. s.adds.burst) (shares t flow 0 along)

unfoldable pub whole_bursts : Table → List ℕ
whole_bursts t = map (λ s. s.adds.burst) (before.shares t flow 0 along)

-- The code of a cause, 0 where there is none.
unfoldable pub code : Option Cause → ℕ
code none = 0
code (some c) = c.code

-- What is worked out, and what is given for it.
pub record Sum : Type 0 where
  pub worked : ℕ
  pub given : ℕ

unfoldable pub sum : ℕ → ℕ → Sum
sum worked given = record { worked = worked; given = given }

unfoldable pub hand_sums : List Sum
hand_sums =
    -- one flow, level 1
    sum (delay 100 0 [] one []) 247
    ∷ sum (backlog 100 0 [] one []) 1558
    -- a second on level 2: there, and then on level 1
    ∷ sum (delay 100 0 (one ∷ []) one []) 374
    ∷ sum (backlog 100 0 (one ∷ []) one []) 1574
    ∷ sum (delay 100 0 [] one (one ∷ [])) 371
    ∷ sum (backlog 100 0 [] one (one ∷ [])) 1573
    -- the same on a link with a best-effort frame of 1,542: it blocks as a frame below does, the last level too; both together block no longer than the
    -- larger (their sum would give 494)
    ∷ sum (delay 100 1542 [] one []) 371
    ∷ sum (backlog 100 1542 [] one []) 1573
    ∷ sum (delay 100 1542 [] one (one ∷ [])) 371
    ∷ sum (delay 100 1542 [] one (short ∷ [])) 371
    ∷ sum (delay 100 84 [] one (one ∷ [])) 371
    ∷ sum (delay 100 1542 (one ∷ []) one []) 499
    ∷ sum (backlog 100 1542 (one ∷ []) one []) 1589
    -- burst after a threshold of 371, and after two (rounded at each hop the second would be 1,634); the fixed delays don't count
    ∷ sum (get_or (bursts (links 296)) 1 0) 1588
    ∷ sum (get_or (bursts (links 296)) 2 0) 1633
    -- after thresholds of 375 and 376: a shortest sending time of 6 or of 8 µs, where it is 7, would give 1,589 or 1,588
    ∷ sum (get_or (bursts (behind 100 375)) 1 0) 1588
    ∷ sum (get_or (bursts (behind 100 376)) 1 0) 1589
    -- each hop's speed is its own, 10 Mbit/s before 100 (the first hop's for both would give 1,618)
    ∷ sum (get_or (bursts (behind 10 371)) 1 0) 1580
    ∷ sum (get_or (bursts (behind 10 371)) 2 0) 1626
    -- 672 bits: 671 would give 1,544 at 671 Mbit/s, 673 would give 1,543 at 672
    ∷ sum (get_or (bursts (behind 671 10)) 1 0) 1543
    ∷ sum (get_or (bursts (behind 672 10)) 1 0) 1544
    -- a threshold below the shortest sending time adds nothing, and takes nothing from the hops before (else 1,588)
    ∷ sum (get_or (bursts (behind 100 6)) 1 0) 1542
    ∷ sum (get_or (bursts (link 100 376 0 ∷ behind 100 6)) 2 0) 1589
    -- by whole thresholds: document 01's own two; after 377, where 376 would give 1,589
    ∷ sum (get_or (whole_bursts (links 296)) 1 0) 1589
    ∷ sum (get_or (whole_bursts (links 296)) 2 0) 1635
    ∷ sum (get_or (whole_bursts (behind 100 377)) 1 0) 1590
    -- held rates 99,000, new 999 and new 1,000
    ∷ sum (rate_code 100 (rate_only 99000 ∷ rate_only 999 ∷ [])) 0
    ∷ sum (rate_code 100 (rate_only 99000 ∷ rate_only 1000 ∷ [])) 21
    -- three thresholds and fixed delays of 295, 296 and 296 are the deadline, 2,000; with one µs of cable more at the last hop it is missed
    ∷ sum (code (deadline_finding (links 296) flow)) 0
    ∷ sum (code (deadline_finding (links 297) flow)) 20
    -- the longest table text
    ∷ sum table_bytes 25088
    -- a gate: the tokens of the largest bucket, the most that an offer adds, and when 84 and 100 bytes pass after the last frame at 1,000 and 3,000 kbit/s; the clock
    -- before and past its corner
    ∷ sum (tokens_of 1000000) 8000000000
    ∷ sum (10000000 * time_passed 1 0) 42949672950000000
    ∷ sum (ceil_div (tokens_of 84) 1000) 672
    ∷ sum (ceil_div (tokens_of 100) 3000) 267
    ∷ sum (time_passed 4294967196 4294967295) 99
    ∷ sum (time_passed 4294967295 166) 167
    ∷ []
