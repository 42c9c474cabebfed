-- A path judged: 14 where a hop has no queue, else what 16, 15 and 20 say of the entries that name it. Assumes nothing.
use Prim.Native.Nat.{ℕ, ◌≤◌}
use mathlib.Core.Path.{◌≡◌, sym, ap, subst, ◌∙◌}
use mathlib.Core.List.{List, [], map}
use mathlib.Core.Option.{none}
use native.Mathlib.Omega.{arith}
use lib.ListN.{length}
use Rattle.std.specs.Prelude.{Result, Ok, Err, MatchResult, IsErrAnd}
use Rattle.model.specs.Sizes.{hops_most}
use Rattle.model.specs.Orders.{Hop}
use Rattle.model.specs.QueueTable.{Table}
use Rattle.model.specs.Reference.{first_cause, at_hop, met_earlier}
use Rattle.model.proofs.Laws.Finding.{none-applies}
use Rattle.causes.specs.View.{finding_of}
use Rattle.causes.specs.declared.Cause.{Cause}
use Rattle.causes.specs.declared.Cause.TheVariants.{NoQueue}
use Rattle.orders.specs.declared.Flow.{Flow}
use Rattle.queue_table.specs.declared.access.Hop as queues
use Rattle.orders.specs.View.{hop_in, line_path}
use Rattle.queue_table.specs.View.{table_of, hop_at}
use Rattle.path_check.specs.View.{PathLocated}
use Rattle.path_check.proofs.SearchLaws.{line-cause}
use Rattle.flow_check.specs.View.{entry_findings, path_findings, PathJudged}

-- The entries, or 14 at the hop without a queue.
abbrev pub Reported : (hops : List queues.Hop) → Result (List ℕ) ℕ → Result (List ℕ) Cause → Type 0
Reported hops located r = MatchResult located (λ entries. r ≡ Ok entries) (λ i. IsErrAnd r (λ cause. cause ≡ NoQueue (hop_in hops i).link (hop_in hops i).level))

pub reported : {P : ℕ → Cause → Type 0} (hops : List queues.Hop) (located : Result (List ℕ) ℕ) (r : Result (List ℕ) Cause)
    → ((i : ℕ) (cause : Cause) → P i cause → cause ≡ NoQueue (hop_in hops i).link (hop_in hops i).level)
    → MatchResult located (λ entries. r ≡ Ok entries) (λ i. IsErrAnd r (P i)) → Reported hops located r
reported hops (Ok entries) r named cases = cases
reported hops (Err i) (Ok entries) named cases = cases
reported hops (Err i) (Err cause) named cases = named i cause cases

first-none : (t : Table) (deadline : ℕ) (path : List Hop) → first_cause (entry_findings t deadline path) ≡ none → at_hop 16 met_earlier [] path ≡ none
unfolding entry_findings
first-none t deadline path e = (none-applies (entry_findings t deadline path) e).0

module _ (f : Flow) (hops : List queues.Hop) (table : List ℕ) (long : length hops ≡ hops_most) (few : f.hops ≤ hops_most) where
  -- 14.
  pub path-missing : (located : Result (List ℕ) ℕ) (cause : Cause) → PathLocated table hops f.hops located → Reported hops located (Err cause)
      → PathJudged f hops table (Err cause)
  unfolding first_cause
  path-missing (Ok entries) cause at told = absurd (cc)
  path-missing (Err i) cause at told =
      record { first = rw told (sym (simp (at.first ∙ line-cause hops f.hops (omega arith) 14 i at.within))); named = tt }

  -- 16, 15 and 20, or nothing.
  module _ (located : Result (List ℕ) ℕ) (entries : List ℕ) (at : PathLocated table hops f.hops located) (told : Reported hops located (Ok entries)) where
    found : (l : Result (List ℕ) ℕ) → Reported hops l (Ok entries) → l ≡ Ok entries
    found (Ok x) e = cc
    found (Err i) e = absurd e

    pub path-found : PathLocated table hops f.hops (Ok entries)
    path-found = subst (PathLocated table hops f.hops) (found located told) at

    module _ (r : Result (Unit {0}) Cause) (judged : finding_of r ≡ first_cause (entry_findings (table_of table) f.deadline.0 (map hop_at entries))) where
      first : finding_of r ≡ first_cause (entry_findings (table_of table) f.deadline.0 (line_path hops f.hops))
      first = judged ∙ ap (λ (p : List Hop). first_cause (entry_findings (table_of table) f.deadline.0 p)) path-found.named

      whole : first_cause (path_findings (table_of table) f.deadline.0 (line_path hops f.hops)) ≡ first_cause (entry_findings (table_of table) f.deadline.0 (line_path hops f.hops))
      unfolding first_cause
      whole = simp path-found.first

      pub path-refused : (cause : Cause) → r ≡ Err cause → PathJudged f hops table (Err cause)
      path-refused cause e = record { first = sym (ap finding_of e) ∙ first ∙ sym whole; named = tt }

      pub path-admitted : (x : Unit {0}) → r ≡ Ok x → PathJudged f hops table (Ok entries)
      path-admitted x e =
          let nothing = sym (ap finding_of e) ∙ first in
          record {
            first = nothing ∙ sym whole;
            named = record { path = path-found.named; queues = path-found.queues; once = first-none (table_of table) f.deadline.0 _ (sym nothing) };
          }
