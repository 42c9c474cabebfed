-- The calls of a list made so far, and those left: one call more, and the end. Assumes nothing.
use Rattle.std.specs.Prelude.{Some, None, Result}
use Prim.Native.Nat.{ℕ, suc, ◌+◌, ◌-◌, ◌*◌, ◌/◌, ◌≤◌, ◌<◌}
use mathlib.Core.Path.{◌≡◌, refl, sym, ap, subst, ◌∙◌}
use mathlib.Core.List.{List, [], ◌∷◌, ◌++◌, map, append-nil, append_assoc}
use mathlib.Core.Option.{Option, none}
use native.Mathlib.Omega.{arith}
use native.Mathlib.Nat.{sub-zero}
use lib.ListN.{length, take, drop, length-append, length-drop, drop_of_length-le}
use lib.Seq.{take_all, length-take-le, drop-drop, take_at, drop_at, append_snoc}
use borrow.Rule.Slice.PartMut.{put_mid}
use Rattle.model.specs.Answers.{answer_columns}
use Rattle.model.proofs.Laws.Answers.{columns-length}
use Rattle.model.proofs.Laws.Total.{total-append}
use Rattle.model.specs.Total.{total}
use Rattle.model.specs.Reference as model
use Rattle.model.specs.Reference.{Call}
use Rattle.orders.specs.View.{kind_of}
use Rattle.causes.specs.declared.Cause.{Cause}
use Rattle.admission.specs.View.{answer_of}
use Rattle.registry.specs.declared.Registry.{Registry}
use Rattle.registry.specs.declared.Called.{Called}
use Rattle.registry.specs.View.{call_of, Performs}
use Rattle.registry.specs.Claim as claim
use Rattle.registry.specs.Claim.{Chain}
use Rattle.registry.specs.ClaimLaws.{chain_next}
use Rattle.recording.specs.Calls.{header_bytes, first_call, bytes_of, listed, calls_in}
use Rattle.recording.specs.View.{FirstCall}
use Rattle.recording.specs.Replay.{call_answer_bytes, answer_lines, made_calls, answered, Runs}
use Rattle.recording.specs.declared.Header.{Header}

-- One line more of answers.
lines_next : (given : List model.Answer) (a : model.Answer) → answer_lines (given ++ (a ∷ [])) ≡ answer_lines given ++ (answer_columns a ++ (10 ∷ []))
unfolding answer_lines
lines_next [] a = refl
lines_next (b ∷ given) a =
    ap (λ (t : List ℕ). answer_columns b ++ (10 ∷ t)) (lines_next given a)
    ∙ sym (append_assoc (answer_columns b) (10 ∷ answer_lines given) (answer_columns a ++ (10 ∷ [])))

map_next : {A B : Type 0} (f : A → B) (l : List A) (x : A) → map f (l ++ (x ∷ [])) ≡ map f l ++ (f x ∷ [])
map_next f [] x = refl
map_next {B = B} f (y ∷ l) x = ap (λ (t : List B). f y ∷ t) (map_next f l x)

-- An answer line put after those before it.
placed : (lines tail columns : List ℕ) (k m : ℕ) → length lines ≡ k → length tail ≤ m
    → put_mid k m (lines ++ tail) (columns ++ (10 ∷ drop call_answer_bytes (take m (drop k (lines ++ tail))))) ≡ lines ++ (columns ++ (10 ∷ drop call_answer_bytes tail))
placed lines tail columns k m e short =
    rw (take_at lines tail k e, drop_at lines tail k e, take_all m tail short, drop_of_length-le tail short)
    (ap (λ (t : List ℕ). lines ++ t) (append-nil (columns ++ (10 ∷ drop call_answer_bytes tail))))

-- So many calls of at most `most` are made.
pub record Going (first : Registry) (calls area : List ℕ) (most : ℕ) (registry : Registry) (at count : ℕ) (area' : List ℕ) : Type 0 where
  pub done : List Call
  pub given : List (Result ℕ Cause)
  pub chain : Chain first done given registry
  pub counted : count ≡ length done
  pub few : count ≤ most
  pub ends : at ≡ bytes_of done
  pub within : at ≤ length calls
  pub left : done ++ calls_in (most - count) (drop at calls) ≡ calls_in most calls
  pub long : length (answer_lines (map answer_of given)) ≡ call_answer_bytes * count
  pub written : area' ≡ answered area count given

pub going-first : (first : Registry) (calls area : List ℕ) (most : ℕ) → Going first calls area most first 0 0 area
unfolding bytes_of answer_lines total
going-first first calls area most =
    record {
      done = [];
      given = [];
      chain = claim.none;
      counted = refl;
      few = omega arith;
      ends = refl;
      within = omega arith;
      left = ap (λ (n : ℕ). calls_in n calls) (sub-zero most);
      long = refl;
      written = refl;
    }

bytes_next : (calls : List Call) (c : Call) → bytes_of (calls ++ (c ∷ [])) ≡ bytes_of calls + (header_bytes + length c.bytes)
unfolding bytes_of total
bytes_next calls c = omega (arith, total-append (λ (d : Call). header_bytes + length d.bytes) calls (c ∷ []))

-- The area with one answer more.
module _ (area : List ℕ) (count : ℕ) (given : List (Result ℕ Cause)) (a : Result ℕ Cause) where
  lines_long : length (answer_lines (map answer_of given)) ≡ call_answer_bytes * count → length (answer_lines (map answer_of (given ++ (a ∷ [])))) ≡ call_answer_bytes * (count + 1)
  lines_long e =
      ap (λ (l : List model.Answer). length (answer_lines l)) (map_next answer_of given a)
      ∙ ap length (lines_next (map answer_of given) (answer_of a))
      ∙ length-append (answer_lines (map answer_of given)) (answer_columns (answer_of a) ++ (10 ∷ []))
      ∙ omega (arith, e, length-append (answer_columns (answer_of a)) (10 ∷ []), columns-length (answer_of a))

  joined : answer_lines (map answer_of given) ++ (answer_columns (answer_of a) ++ (10 ∷ drop call_answer_bytes (drop (call_answer_bytes * count) area))) ≡ answered area (count + 1) (given ++ (a ∷ []))
  joined =
      let further : call_answer_bytes * count + call_answer_bytes ≡ call_answer_bytes * (count + 1) = omega arith in
      let rest : drop call_answer_bytes (drop (call_answer_bytes * count) area) ≡ drop (call_answer_bytes * (count + 1)) area = drop-drop call_answer_bytes (call_answer_bytes * count) area ∙ ap (λ (n : ℕ). drop n area) further in
      let columns = answer_columns (answer_of a) in
      let lines = answer_lines (map answer_of given) in
      ap (λ (t : List ℕ). lines ++ (columns ++ (10 ∷ t))) rest
      ∙ ap (λ (t : List ℕ). lines ++ t) (sym (append_snoc columns 10 (drop (call_answer_bytes * (count + 1)) area)))
      ∙ sym (append_assoc lines (columns ++ (10 ∷ [])) (drop (call_answer_bytes * (count + 1)) area))
      ∙ ap (λ (t : List ℕ). t ++ drop (call_answer_bytes * (count + 1)) area) (sym (lines_next (map answer_of given) (answer_of a)) ∙ ap answer_lines (sym (map_next answer_of given a)))

  area-next : (area' part : List ℕ) → length (answer_lines (map answer_of given)) ≡ call_answer_bytes * count → area' ≡ answered area count given
      → part ≡ answer_columns (answer_of a) ++ (10 ∷ drop call_answer_bytes (take (length area' - call_answer_bytes * count) (drop (call_answer_bytes * count) area')))
      → put_mid (call_answer_bytes * count) (length area' - call_answer_bytes * count) area' part ≡ answered area (count + 1) (given ++ (a ∷ []))
  area-next area' part long e f =
      let k = call_answer_bytes * count in
      let m = length area' - k in
      let short : length (drop k area) ≤ m = omega (arith, ap length e, length-append (answer_lines (map answer_of given)) (drop k area), long) in
      ap (put_mid k m area') f
      ∙ ap (λ (l : List ℕ). put_mid k m l (answer_columns (answer_of a) ++ (10 ∷ drop call_answer_bytes (take m (drop k l))))) e
      ∙ placed (answer_lines (map answer_of given)) (drop k area) (answer_columns (answer_of a)) k m long short
      ∙ joined

-- The rest of the list from `at` on, as it is lent.
abbrev pub rest_at : (calls : List ℕ) (at : ℕ) → List ℕ
rest_at calls at = take (length calls - at) (drop at calls)

-- The call at `at`, by its header.
module _ (calls : List ℕ) (at : ℕ) (head : Header) where
  abbrev pub bytes_at : List ℕ
  bytes_at = take head.size (drop header_bytes (drop at calls))

  module _ (low : at ≤ length calls) (found : FirstCall (rest_at calls at) (Some head)) where
    whole : take (length calls - at) (drop at calls) ≡ drop at calls
    whole = take_all (length calls - at) (drop at calls) (omega (arith, length-drop at calls))

    pub here : FirstCall (drop at calls) (Some head)
    here = subst (λ (l : List ℕ). FirstCall l (Some head)) whole found

    pub fits_in : at + header_bytes + head.size ≤ length calls
    fits_in = omega (arith, here.within, length-drop at calls, low)

    bytes-long : length bytes_at ≡ head.size
    bytes-long = length-take-le head.size (drop header_bytes (drop at calls)) (omega (arith, here.within, length-drop header_bytes (drop at calls)))

    next-left : (most count : ℕ) → count < most
        → calls_in (most - count) (drop at calls) ≡ call_of (kind_of head.kind) bytes_at ∷ calls_in (most - (count + 1)) (drop (at + header_bytes + head.size) calls)
    unfolding calls_in
    next-left most count h =
        let one_more : most - count ≡ suc (most - (count + 1)) = omega arith in
        let to : at + (header_bytes + length bytes_at) ≡ at + header_bytes + head.size = omega (arith, bytes-long) in
        let rest : drop (header_bytes + length bytes_at) (drop at calls) ≡ drop (at + header_bytes + head.size) calls = drop-drop (header_bytes + length bytes_at) at calls ∙ ap (λ (n : ℕ). drop n calls) to in
        rw one_more
        (ap (λ (o : Option Call). listed o (λ c. calls_in (most - (count + 1)) (drop (header_bytes + length c.bytes) (drop at calls)))) (sym here.same)
        ∙ ap (λ (l : List ℕ). call_of (kind_of head.kind) bytes_at ∷ calls_in (most - (count + 1)) l) rest)

    bytes-given : take (at + header_bytes + head.size - (at + header_bytes)) (drop (at + header_bytes) calls) ≡ bytes_at
    bytes-given =
        let n : at + header_bytes + head.size - (at + header_bytes) ≡ head.size = omega arith in
        rw n (ap (take head.size) (sym (drop-drop header_bytes at calls)))

    -- One call more.
    pub going_next : {first registry : Registry} {area area' : List ℕ} {most count : ℕ} → Going first calls area most registry at count area' → count < most
        → (called : Called) → Performs registry (call_of (kind_of head.kind) (take (at + header_bytes + head.size - (at + header_bytes)) (drop (at + header_bytes) calls))) called
        → (part : List ℕ) → part ≡ answer_columns (answer_of called.answer) ++ (10 ∷ drop call_answer_bytes (take (length area' - call_answer_bytes * count) (drop (call_answer_bytes * count) area')))
        → Going first calls area most called.registry (at + header_bytes + head.size) (count + 1) (put_mid (call_answer_bytes * count) (length area' - call_answer_bytes * count) area' part)
    going_next {registry = registry} {area = area} {area' = area'} {most = most} {count = count} g more called p part e =
        let c = call_of (kind_of head.kind) bytes_at in
        record {
          done = g.done ++ (c ∷ []);
          given = g.given ++ (called.answer ∷ []);
          chain = chain_next g.chain (subst (λ (l : List ℕ). Performs registry (call_of (kind_of head.kind) l) called) bytes-given p);
          counted = omega (arith, g.counted, length-append g.done (c ∷ []));
          few = omega arith;
          ends = omega (arith, g.ends, bytes_next g.done c, bytes-long);
          within = fits_in;
          left =
              append_snoc g.done c (calls_in (most - (count + 1)) (drop (at + header_bytes + head.size) calls))
              ∙ ap (λ (l : List Call). g.done ++ l) (sym (next-left most count more))
              ∙ g.left;
          long = lines_long area count g.given called.answer g.long;
          written = area-next area count g.given called.answer area' part g.long g.written e;
        }

-- The area keeps its size, and has room for one answer more.
module _ {first registry : Registry} {calls area area' : List ℕ} {at count : ℕ} (g : Going first calls area (length area / call_answer_bytes) registry at count area') where
  pub same_size : length area' ≡ length area
  same_size =
      ap length g.written
      ∙ length-append (answer_lines (map answer_of g.given)) (drop (call_answer_bytes * count) area)
      ∙ omega (arith, g.long, g.few, length-drop (call_answer_bytes * count) area)

  pub line-room : count < length area / call_answer_bytes → call_answer_bytes * count + call_answer_bytes ≤ length area
  line-room h = omega arith

-- No call is left, for want of room or since the next isn't whole: all are made.
module _ {first registry : Registry} {calls area area' : List ℕ} {most at count : ℕ} (g : Going first calls area most registry at count area') where
  pub full : most ≤ count → g.done ≡ calls_in most calls
  unfolding calls_in
  full h =
      let none_left : most - count ≡ 0 = omega arith in
      sym (append-nil g.done) ∙ ap (λ (n : ℕ). g.done ++ calls_in n (drop at calls)) (sym none_left) ∙ g.left

  pub broken : count < most → FirstCall (rest_at calls at) None → g.done ≡ calls_in most calls
  unfolding calls_in
  broken h found =
      let one_more : most - count ≡ suc (most - (count + 1)) = omega arith in
      let whole = take_all (length calls - at) (drop at calls) (omega (arith, length-drop at calls)) in
      let ends : first_call (drop at calls) ≡ none = ap first_call (sym whole) ∙ sym found.same in
      sym (append-nil g.done)
      ∙ ap (λ (o : Option Call). g.done ++ listed o (λ c. calls_in (most - (count + 1)) (drop (header_bytes + length c.bytes) (drop at calls)))) (sym ends)
      ∙ ap (λ (n : ℕ). g.done ++ calls_in n (drop at calls)) (sym one_more)
      ∙ g.left

-- What is said of a run whose calls are all made.
pub ran : {first registry : Registry} {calls area area' : List ℕ} {at count : ℕ} (g : Going first calls area (length area / call_answer_bytes) registry at count area')
    → g.done ≡ calls_in (length area / call_answer_bytes) calls → Runs first calls area area' (record { registry = registry; count = count; end = at })
unfolding made_calls
ran {first} {registry} {area = area} g e =
    record {
      count = g.counted ∙ ap length e;
      end = g.ends ∙ ap bytes_of e;
      given = g.given;
      chain = subst (λ (l : List Call). Chain first l g.given registry) e g.chain;
      written = g.written ∙ ap (λ (n : ℕ). answered area n g.given) (g.counted ∙ ap length e);
    }
