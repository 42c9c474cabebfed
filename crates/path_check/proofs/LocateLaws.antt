-- The hops of an order line, located one by one: the entries so far name the hops so far, and what is left of the search.
-- Assumes nothing.
use Prim.Native.Nat.{ℕ, ◌+◌, ◌≤◌, ◌<◌}
use Rattle.std.specs.Prelude.{Ok, Err}
use mathlib.Core.Path.{◌≡◌, sym, ap, ap₂, ◌∙◌}
use mathlib.Core.Bool.{true, not}
use mathlib.Core.List.{List, [], ◌∷◌, ◌++◌, map, map-append}
use mathlib.Core.Option.{none}
use native.Mathlib.Omega.{arith}
use native.Mathlib.Numerals.{add-one}
use lib.ListN.{length, take, length-append}
use lib.Seq.{take-suc}
use Rattle.model.specs.Words.{is_none}
use Rattle.model.specs.Sizes.{hops_most}
use Rattle.model.specs.Orders.{Hop}
use Rattle.model.proofs.Laws.All.{all_append}
use Rattle.model.specs.Aggregates as model
use Rattle.model.specs.Reference.{at_hop, no_queue}
use Rattle.model.proofs.Laws.Path.{search_from, search-on, search-ended}
use Rattle.queue_table.specs.declared.access.Hop as queues
use Rattle.orders.specs.View.{hops_in, hop_in, line_path}
use Rattle.orders.proofs.PathLaws.{hops-long, hops-at}
use Rattle.queue_table.specs.View.{table_of, hop_at, is_queue, AllQueues}
use Rattle.path_check.specs.View.{PathLocated}
use Rattle.path_check.proofs.EntryLaws.{no-queue}
use Rattle.path_check.proofs.SearchLaws.{found_at, path-long, path-hop}

-- What holds before hop i.
pub record Locating (table : List ℕ) (hops : List queues.Hop) (count : ℕ) (entries : List ℕ) (i : ℕ) : Type 0 where
  pub size : length entries ≡ i
  pub within : i ≤ count
  pub named : map hop_at entries ≡ take i (hops_in hops)
  pub queues : AllQueues table entries
  pub left : at_hop 14 (no_queue (table_of table)) [] (line_path hops count)
      ≡ search_from 14 (no_queue (table_of table)) (line_path hops count) i

module _ (table : List ℕ) (hops : List queues.Hop) (count : ℕ) (long : length hops ≡ hops_most) (few : count ≤ hops_most) where
  within-hops : count ≤ length hops
  within-hops = omega arith

  module _ (entries : List ℕ) (i : ℕ) (at : Locating table hops count entries i) where
    named-next : (e : ℕ) → i < count → hop_at e ≡ hop_in hops i → map hop_at (entries ++ (e ∷ [])) ≡ take (i + 1) (hops_in hops)
    named-next e h names =
        rw (add-one i)
        (map-append hop_at entries (e ∷ [])
        ∙ ap₂ (λ (m : List Hop) (x : Hop). m ++ (x ∷ [])) at.named (names ∙ sym (hops-at hops i (hop_in hops i) (omega arith)))
        ∙ sym (take-suc (hops_in hops) i (hop_in hops i) (omega (arith, hops-long hops))))

    -- One hop more.
    pub locating-next : (e : ℕ) → i < count → hop_at e ≡ hop_in hops i → is_queue table e ≡ true
        → Locating table hops count (entries ++ (e ∷ [])) (i + 1)
    locating-next e h names queue =
        record {
          size = omega (arith, at.size, length-append entries (e ∷ []));
          within = omega arith;
          named = named-next e h names;
          queues = all_append (λ x. is_queue table x ≡ true) entries (e ∷ []) at.queues (queue, tt);
          left =
              at.left
              ∙ search-on 14 (no_queue (table_of table)) (line_path hops count) i (hop_in hops i) (omega (arith, path-long hops count within-hops))
              (ap (no_queue (table_of table) _) (path-hop hops count within-hops i (hop_in hops i) h ∙ sym names) ∙ no-queue table _ e ∙ ap not queue);
        }

    -- A hop without a queue.
    pub located-missing : i < count → model.queue_at (table_of table) (hop_in hops i) ≡ none → PathLocated table hops count (Err i)
    unfolding no_queue is_none
    located-missing h none-there =
        record {
          first =
              at.left
              ∙ found_at 14 (no_queue (table_of table)) (line_path hops count) i (hop_in hops i) (omega (arith, path-long hops count within-hops))
              (ap (λ (x : Hop). is_none (model.queue_at (table_of table) x)) (path-hop hops count within-hops i (hop_in hops i) h) ∙ ap is_none (none-there));
          within = h;
          named = tt;
          queues = tt;
        }

    pub located-all : i ≡ count → PathLocated table hops count (Ok entries)
    located-all e =
        record {
          first = at.left ∙ search-ended 14 (no_queue (table_of table)) (line_path hops count) i (omega (arith, path-long hops count within-hops));
          within = tt;
          named = rw e at at.named;
          queues = at.queues;
        }
