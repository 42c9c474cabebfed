-- A handover text: how long it is, that it reads as the registrations of its flows, and that a registry opened on their table admits them all and holds them in turn.
-- A number in range has room in its columns (`field-behind`), as the hops of consistent flows have, whose table is small. By induction on flows and hops. Assumes nothing.
use Rattle.std.specs.Prelude.{ℕ, ◌+◌, ◌*◌, ◌^◌, ◌≤◌, ◌<◌, ◌≡◌, refl, true, false, length}
use Rattle.std.proofs.Math.Path.{ap}
use Rattle.std.proofs.Common.{ap₂, ◌∙◌, arith, length-append, drop_at}
use mathlib.Core.List.{List, [], ◌∷◌, ◌++◌, map}
use Rattle.std.proofs.Math.Option.{some}
use Rattle.std.proofs.lemmas.List.{length-map}
use Rattle.std.proofs.Math.Seq.{append_snoc}
use borrow.Author.Tests.{eq-eqb, leb-true, lt-ltb, le-ltb}
use Rattle.model.specs.Words.{All, every, joined}
use Rattle.model.specs.Sizes.{links_most, levels_most, head_columns, hop_columns, order_bytes, order_lines, handover_most}
use Rattle.model.specs.Total.{total}
use Rattle.model.specs.Columns.{field_at, padded, justified, Line, ended, lines}
use Rattle.model.specs.QueueTable.{Table}
use Rattle.model.specs.Orders.{Hop, Head, Flow, Order, register, registering, kind_number, change_fields, head_fields, hop_field, hop_fields, path_fields, hops_in_range, head_in_range, flow_of, with_path, registration_of, registration, kind_of_number, kind_order, order_of_kind, read_order, order_line}
use Rattle.model.specs.Aggregates.{link_at}
use Rattle.model.specs.Schedulable.{Named}
use Rattle.model.specs.Reference.{State, held_flows, held_hops, line_findings, order_answers, after_orders, line_of_kind, only_line, call_order, opened}
use Rattle.model.specs.Consistent.{head_of, flow_in_range, link_consistent, table_consistent}
use Rattle.model.specs.Batch.{line_answers, too_long}
use Rattle.model.specs.AnyOrder.{slots_from}
use Rattle.model.specs.Handover.{head_text, hop_text, flow_columns, flow_line, handover_text, handover_bytes, refused_writing, done_writing, writing, HandsOver}
use Rattle.model.proofs.Laws.Test.{and_both}
use Rattle.model.proofs.Laws.All.{all-imp}
use Rattle.model.proofs.Laws.List.{number-within}
use Rattle.model.proofs.Laws.Columns.{between-true}
use Rattle.model.proofs.Laws.Answers.{justified-length}
use Rattle.model.proofs.Laws.Fields.{field-behind, printed, printed-both, justified-printed, one_line}
use Rattle.model.proofs.Laws.Consistent.{FlowRules, FlowsRules}
use Rattle.model.proofs.Laws.Admissible.{FlowBounds, flow-bounds}
use Rattle.model.proofs.Laws.Schedulable.{link-bounds, queue-bounds, named}
use Rattle.model.proofs.Laws.Reached.{opened-rules}
use Rattle.model.proofs.Laws.AnyOrder.{held-turn, left-in-turn, held-in-turn}

pub head-long : (h : Head) → length (head_text h) ≡ head_columns
unfolding head_text
head-long h = simp (length-append, justified-length)

pub hop-long : (h : Hop) → length (hop_text h) ≡ hop_columns
unfolding hop_text
hop-long h = simp (length-append, justified-length)

pub path-long : (path : List Hop) → length (joined hop_text path) ≡ hop_columns * length path
unfolding joined
path-long [] = refl
path-long (h ∷ path) = length-append (hop_text h) (joined hop_text path) ∙ omega (arith, hop-long h, path-long path)

columns-long : (f : Flow) → length (flow_columns f) ≡ head_columns + hop_columns * length f.path
unfolding flow_columns
columns-long f = length-append (head_text _) (joined hop_text f.path) ∙ ap₂ (λ (a b : ℕ). a + b) (head-long _) (path-long f.path)

pub line-long : (f : Flow) → length (flow_line f) ≡ head_columns + 1 + hop_columns * length f.path
unfolding flow_line
line-long f = length-append (flow_columns f) (10 ∷ []) ∙ omega (arith, columns-long f)

pub text-long : (fs : List Flow) → length (handover_text fs) ≡ handover_bytes fs
unfolding handover_text handover_bytes joined total
text-long [] = refl
text-long (f ∷ fs) = length-append (flow_line f) (joined flow_line fs) ∙ ap₂ (λ (a b : ℕ). a + b) (line-long f) (text-long fs)

-- A hop that its columns have room for.
record HopFits (h : Hop) : Type 0 where
  link : h.link < 10 ^ 4
  level : h.level < 10 ^ 2

hop-read : (h : Hop) (rest : List ℕ) → HopFits h → hop_field (hop_text h ++ rest) ≡ some h
unfolding hop_field hop_text justified padded
hop-read h rest fits =
    rw (field-behind 0 3 h.link (hop_text h ++ rest) refl fits.link, field-behind 4 1 h.level (hop_text h ++ rest) refl fits.level)

path-read : (path : List Hop) → All HopFits path → hop_fields (length path) (joined hop_text path) ≡ some path
unfolding hop_fields joined
path-read [] fits = refl
path-read (h ∷ path) fits =
    rw (hop-read h (joined hop_text path) fits.0, drop_at (hop_text h) (joined hop_text path) hop_columns (hop-long h), path-read path fits.1)

head_read : (f : Flow) → FlowBounds f → head_fields (flow_columns f) ≡ some (head_of f)
unfolding head_fields change_fields flow_columns head_text head_of justified padded
head_read f b =
    let line = flow_columns f in
    rw (
      field-behind 2 5 f.number line refl (omega (arith, b.number)),
      field-behind 8 8 f.rate line refl (omega (arith, b.rate)),
      field-behind 17 7 f.burst line refl (omega (arith, b.burst)),
      field-behind 25 4 f.frame line refl (omega (arith, b.frame.1)),
      field-behind 30 7 f.deadline line refl (omega (arith, b.deadline)),
      field-behind 38 2 (length f.path) line refl (omega (arith, b.hops)),
    )

-- A flow that a line has room for.
record LineFits (f : Flow) : Type 0 where
  range : flow_in_range f ≡ true
  hops : All HopFits f.path

kind-read : (f : Flow) → field_at 1 2 (flow_columns f) ≡ some (kind_number registering)
unfolding flow_columns head_text justified padded kind_number
kind-read f = field-behind 0 1 (kind_number registering) (flow_columns f) refl (omega arith)

path-there : (f : Flow) → All HopFits f.path → path_fields (length f.path) (flow_columns f) ≡ some f.path
unfolding path_fields flow_columns
path-there f fits =
    rw (eq-eqb _ _ (columns-long f), drop_at (head_text (head_of f)) (joined hop_text f.path) head_columns (head-long (head_of f)))
    (path-read f.path fits)

line_read : (f : Flow) → LineFits f → read_order (flow_columns f) ≡ register f
unfolding read_order order_of_kind kind_of_number kind_number kind_order registration registration_of with_path flow_of head_of flow_in_range
line_read f fits =
    let (head, hops) = and_both (head_in_range (head_of f)) (hops_in_range (length f.path)) fits.range in
    rw (kind-read f, head_read f (flow-bounds f fits.range), hops, path-there f fits.hops, head)

path-printed : (path : List Hop) → printed (joined hop_text path) ≡ true
unfolding joined hop_text printed every
path-printed [] = refl
path-printed (h ∷ path) = simp (printed-both, justified-printed, path-printed path)

columns-printed : (f : Flow) → printed (flow_columns f) ≡ true
unfolding flow_columns head_text
columns-printed f = simp (printed-both, justified-printed, path-printed f.path)

pub text-lines : (fs : List Flow) → lines (handover_text fs) ≡ map (λ f. ended (flow_columns f)) fs
unfolding handover_text joined flow_line lines
text-lines [] = refl
text-lines (f ∷ fs) =
    ap lines (append_snoc (flow_columns f) 10 (handover_text fs))
    ∙ one_line (flow_columns f) (handover_text fs) (columns-printed f)
    ∙ ap (λ (ls : List Line). ended (flow_columns f) ∷ ls) (text-lines fs)

text-read : (fs : List Flow) → All LineFits fs → map order_line (lines (handover_text fs)) ≡ map register fs
unfolding order_line
text-read fs fits = ap (map order_line) (text-lines fs) ∙ each fs fits
  where
    each : (fs : List Flow) → All LineFits fs → map order_line (map (λ f. ended (flow_columns f)) fs) ≡ map register fs
    each [] fits = refl
    each (f ∷ fs) fits = ap₂ (λ (o : Order) (os : List Order). o ∷ os) (line_read f fits.0) (each fs fits.1)

-- A direct call with the line of a flow.
call-read : (f : Flow) → LineFits f → call_order (record { kind = registering; bytes = flow_line f }) ≡ register f
unfolding call_order only_line line_of_kind flow_line lines kind_number
call-read f fits = rw (one_line (flow_columns f) [] (columns-printed f), kind-read f, line_read f fits)

-- With at most 256 flows and 1,024 hops the text is short.
bytes_counted : (fs : List Flow) → handover_bytes fs ≡ (head_columns + 1) * length fs + hop_columns * held_hops fs
unfolding handover_bytes held_hops total
bytes_counted [] = refl
bytes_counted (f ∷ fs) = omega (arith, bytes_counted fs)

pub bytes_most : (t : Table) (fs : List Flow) → FlowsRules t fs → handover_bytes fs ≤ handover_most
bytes_most t fs r = omega (arith, bytes_counted fs, r.slots, r.hops)

text-fits : (t : Table) (fs : List Flow) → FlowsRules t fs → too_long (handover_text fs) ≡ false
unfolding too_long
text-fits t fs r =
    let few : length (lines (handover_text fs)) ≡ length fs = ap length (text-lines fs) ∙ length-map fs (λ f. ended (flow_columns f)) in
    rw (
      le-ltb order_bytes (length (handover_text fs)) (omega (arith, text-long fs, bytes_most t fs r)),
      le-ltb order_lines (length (lines (handover_text fs))) (omega (arith, few, r.slots)),
    )

-- The hops of consistent flows are queues of the table, whose links and levels are few.
module _ (t : Table) (ok : table_consistent t ≡ true) where
  hop-fits : (h : Hop) → Named t h → HopFits h
  unfolding link_at table_consistent
  hop-fits h n =
      let (k, found, level, bounds) = queue-bounds t ok h n.queue n.found in
      let links = leb-true (length t) links_most (and_both (every link_consistent t) _ ok).1 in
      let levels = (between-true 1 levels_most (length k.levels) (link-bounds t ok h.link k found).0).1 in
      record {
        link = omega (arith, (number-within t h.link k found).1, links);
        level = omega (arith, (number-within k.levels h.level n.queue level).1, levels);
      }

  flow-fits : (fs : List Flow) (f : Flow) → FlowRules t fs f → LineFits f
  unfolding line_findings
  flow-fits fs f r = record { range = r.range; hops = all-imp f.path hop-fits (named t [] f.path r.line.1.0) }

module _ (table : List ℕ) (fs : List Flow) (r : FlowsRules (opened table).table fs) where
  fits : All LineFits fs
  fits = all-imp fs (flow-fits (opened table).table (opened-rules table).table fs) r.flows

  pub calls-read : All (λ f. call_order (record { kind = registering; bytes = flow_line f }) ≡ register f) fs
  calls-read = all-imp fs call-read fits

  pub hands-over : HandsOver table fs
  unfolding line_answers
  hands-over =
      let left = ap (after_orders (opened table)) (text-read fs fits) ∙ left-in-turn table fs r in
      record {
        fits = text-fits (opened table).table fs r;
        read = text-read fs fits;
        answers =
            ap (order_answers (opened table)) (text-read fs fits)
            ∙ (held-in-turn table fs r).answered
            ∙ ap (slots_from 1) (length-map fs register);
        left = left;
        flows = ap (λ (s : State). held_flows s.slots) left ∙ held-turn fs;
      }

-- An area that has no room for a text, or has.
pub writing-short : (text area : List ℕ) → length area < length text → writing text area ≡ refused_writing 43 area
unfolding writing
writing-short text area h = rw (lt-ltb (length area) (length text) h)

pub writing-done : (text area : List ℕ) → length text ≤ length area → writing text area ≡ done_writing text area
unfolding writing
writing-done text area h = rw (le-ltb (length area) (length text) h)
