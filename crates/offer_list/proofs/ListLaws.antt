-- The text of a list's answers: what a line adds to it, an answer line, and how long it is at the most. Assumes nothing.
use Rattle.std.proofs.Common.{◌≡◌, ℕ, suc, ◌+◌, ◌-◌, ◌*◌, ◌%◌, ◌≤◌, Bool, true, false, cond, eqb, List, [], ◌∷◌, ◌++◌, length, take, drop, set, replicate, sym, refl, ap, ◌∙◌, ap₂, append_assoc, append-nil, add-one, arith, length-append, length-drop, drop-drop, take_at, eq-eqb, ne_eqb, eqb-true}
use mathlib.Core.Option.{Option, none, some}
use lib.ListN.{length-replicate}
use lib.Seq.{drop-append-add}
use borrow.Rule.Slice.PartMut.{put_mid}
use Rattle.model.specs.Words.{and_then}
use Rattle.model.specs.Columns.{Line, ended, unended, lines, field_at, justified, written_at, end_line}
use Rattle.model.specs.Total.{total}
use Rattle.model.proofs.Laws.Answers.{justified-length}
use Rattle.model.proofs.Laws.Batch.{line_bytes, lines-within}
use Rattle.model.specs.Gate.{Gate, GateAnswer, turn, offer, open_gate}
use Rattle.model.specs.OfferList.{Opening, Step, opening_fields, read_opening, step_fields, read_step, gate_line, of_line, step_text, steps_text, opened_text, opening_text, list_text, offers_text}
use Rattle.columns.proofs.PartLaws.{field_next, byte_next, text-put, Filling, filling-first, filling-room, filling-put, filling-last}
use Rattle.std.specs.Prelude.{Some, None, MatchOption}
use Rattle.std.specs.Prelude as code
use Rattle.columns.specs.View.{line_of}
use denote.Ref.{Bor}
use Rattle.offer_list.specs.declared.Opening as code-opening
use Rattle.offer_list.specs.declared.Step as code_step
use Rattle.offer_list.specs.View.{gate_line_bytes, pair_at, opening_in, step_in, FirstStep}

-- An answer line, field by field, and its bytes.
pub gate-line-written : (l : List ℕ) (a : GateAnswer) → gate_line_bytes ≤ length l
    → set (written_at 4 17 a.gate.tokens (written_at 1 3 a.code l)) 17 10 ≡ gate_line a ++ drop gate_line_bytes l
unfolding gate_line
gate-line-written l a room =
    let code = justified 3 a.code in
    let tokens = justified 14 a.gate.tokens in
    ap (λ (t : List ℕ). set (written_at 4 17 a.gate.tokens t) 17 10) (field_next [] l 0 3 a.code refl)
    ∙ ap (λ (t : List ℕ). set t 17 10) (field_next code l 3 14 a.gate.tokens (justified-length 3 a.code))
    ∙ byte_next (code ++ tokens) l 17 10 (omega (arith, length-append code tokens, justified-length 3 a.code, justified-length 14 a.gate.tokens)) (omega (arith, room))
    ∙ sym (append_assoc (code ++ tokens) (10 ∷ []) (drop gate_line_bytes l))
    ∙ ap (λ (t : List ℕ). t ++ drop gate_line_bytes l) (append_assoc code tokens (10 ∷ []))

pub gate-line-long : (a : GateAnswer) → length (gate_line a) ≡ gate_line_bytes
unfolding gate_line
gate-line-long a =
    length-append (justified 3 a.code) _
    ∙ omega (arith, justified-length 3 a.code, length-append (justified 14 a.gate.tokens) (10 ∷ []), justified-length 14 a.gate.tokens)

pub end-line-long : (n : ℕ) → length (end_line n) ≡ 14
unfolding end_line
end-line-long n = omega (arith, length-append (justified 10 n) (10 ∷ []), justified-length 10 n)

-- What a line says, by its length and its fields two by two.
pub step_other : (line : List ℕ) → (length line ≡ 14 → ⊥) → read_step line ≡ none
unfolding read_step
step_other line h = ap (λ (b : Bool). cond b (step_fields line) none) (ne_eqb (length line) 14 h)

abbrev pub step_from : Option (ℕ × ℕ) → Option Step
step_from p = and_then p λ p. some (record { length = p.0; micros = p.1 })

pub step-as : (line : List ℕ) → length line ≡ 14 → (p : Option (ℕ × ℕ)) → pair_at 1 5 14 line ≡ p → read_step line ≡ step_from p
unfolding read_step step_fields
step-as line h p e =
    ap (λ (b : Bool). cond b (step_fields line) none) (eq-eqb (length line) 14 h) ∙ go (field_at 1 5 line) (field_at 6 14 line) ∙ ap step_from e
  where
    go : (a b : Option ℕ) → (and_then a λ length. and_then b λ micros. some (record { length = length; micros = micros }))
        ≡ step_from (and_then a λ x. and_then b λ y. some (x, y))
    go none b = refl
    go (some x) none = refl
    go (some x) (some y) = refl

pub opening-other : (line : List ℕ) → (length line ≡ 31 → ⊥) → read_opening line ≡ none
unfolding read_opening
opening-other line h = ap (λ (b : Bool). cond b (opening_fields line) none) (ne_eqb (length line) 31 h)

abbrev pub opening_from : Option (ℕ × ℕ) → Option (ℕ × ℕ) → Option Opening
opening_from p q = and_then p λ p. and_then q λ q. some (record { rate = p.0; burst = p.1; frame = q.0; reading = q.1 })

pub opening-as : (line : List ℕ) → length line ≡ 31 → (p q : Option (ℕ × ℕ)) → pair_at 1 9 17 line ≡ p → pair_at 18 22 31 line ≡ q → read_opening line ≡ opening_from p q
unfolding read_opening opening_fields
opening-as line h p q e d =
    ap (λ (b : Bool). cond b (opening_fields line) none) (eq-eqb (length line) 31 h)
    ∙ go (field_at 1 9 line) (field_at 10 17 line) (field_at 18 22 line) (field_at 23 31 line)
    ∙ ap₂ opening_from e d
  where
    go : (a b c d : Option ℕ)
        → (and_then a λ rate. and_then b λ burst. and_then c λ frame. and_then d λ reading. some (record { rate = rate; burst = burst; frame = frame; reading = reading }))
        ≡ opening_from (and_then a λ x. and_then b λ y. some (x, y)) (and_then c λ x. and_then d λ y. some (x, y))
    go none b c d = refl
    go (some x) none c d = refl
    go (some x) (some y) none d = refl
    go (some x) (some y) (some z) none = refl
    go (some x) (some y) (some z) (some w) = refl

-- What a line says, by a reader that reads the bytes of one as the model does: a step, or the opening.
module _ {T A : Type 0} (in' : code.Option T → Option A) (read : List ℕ → Option A) (no : in' None ≡ none) where
  read_by : (line : code.Option (Bor (List ℕ))) (found : code.Option T) → MatchOption line (found ≡ None) (λ x. in' found ≡ read x.now)
      → in' found ≡ of_line read (line_of line)
  read_by None found e = ap in' e ∙ no
  read_by (Some bytes) found e = e

pub step-found : {left others : List Line} (line : code.Option (Bor (List ℕ))) (found : code.Option code_step.Step) → left ≡ line_of line ∷ others
    → MatchOption line (found ≡ None) (λ x. step_in found ≡ read_step x.now) → FirstStep left others found
unfolding steps_text
step-found {left} {others} line found first e =
    let is = sym (read_by step_in read_step refl line found e) in
    record {
      same = λ n clock g. ap (steps_text n clock g) first ∙ ap (λ (s : Option Step). step_text n clock g s λ now g'. steps_text (suc n) now g' others) is;
      counted = ap (length {A = Line}) first;
    }

pub opening-found : (text : List ℕ) (others : List Line) (line : code.Option (Bor (List ℕ))) (found : code.Option code-opening.Opening) → lines text ≡ line_of line ∷ others
    → MatchOption line (found ≡ None) (λ x. opening_in found ≡ read_opening x.now) → offers_text text ≡ opening_text (opening_in found) others
unfolding offers_text list_text
opening-found text others line found first e =
    ap list_text first ∙ ap (λ (o : Option Opening). opening_text o others) (sym (read_by opening_in read_opening refl line found e))

-- 18 bytes are printed for the 15 of a line that is read, so 6 for 5; and 14 where the list breaks off.
steps-most : (n clock : ℕ) (g : Gate) (ls : List Line) → 5 * length (steps_text n clock g ls) ≤ 6 * total line_bytes ls + 70
unfolding steps_text step_text read_step total line_bytes
steps-most n clock g [] = omega arith
steps-most n clock g (unended ∷ ls) = omega (arith, end-line-long n)
steps-most n clock g (ended line ∷ ls) = go (eqb (length line) 14) refl (step_fields line) (λ now g'. steps-most (suc n) now g' ls)
  where
    go : (b : Bool) → eqb (length line) 14 ≡ b → (s : Option Step) → ((now : ℕ) (g' : Gate) → 5 * length (steps_text (suc n) now g' ls) ≤ 6 * total line_bytes ls + 70)
        → 5 * length (step_text n clock g (cond b s none) λ now g'. steps_text (suc n) now g' ls) ≤ 6 * (suc (length line) + total line_bytes ls) + 70
    go false e s more = omega (arith, end-line-long n)
    go true e none more = omega (arith, end-line-long n)
    go true e (some s) more =
        let now = (clock + s.micros) % turn in
        let a = offer g s.length now in
        omega (arith, eqb-true (length line) 14 e, gate-line-long a, length-append (gate_line a) (steps_text (suc n) now a.gate ls), more now a.gate)

list-most : (ls : List Line) → 5 * length (list_text ls) ≤ 6 * total line_bytes ls + 70
unfolding list_text opening_text opened_text read_opening total line_bytes
list-most [] = omega arith
list-most (unended ∷ ls) = omega (arith, end-line-long 1)
list-most (ended line ∷ ls) = go (eqb (length line) 31) refl (opening_fields line)
  where
    opened : (o : Opening) (a : GateAnswer) (b : Bool) → 31 ≤ length line
        → 5 * length (gate_line a ++ cond b (steps_text 2 o.reading a.gate ls) []) ≤ 6 * (suc (length line) + total line_bytes ls) + 70
    opened o a true long =
        omega (arith, long, gate-line-long a, length-append (gate_line a) (steps_text 2 o.reading a.gate ls), steps-most 2 o.reading a.gate ls)
    opened o a false long = omega (arith, long, gate-line-long a, length-append (gate_line a) [])

    go : (b : Bool) → eqb (length line) 31 ≡ b → (o : Option Opening) → 5 * length (opening_text (cond b o none) ls) ≤ 6 * (suc (length line) + total line_bytes ls) + 70
    go false e o = omega (arith, end-line-long 1)
    go true e none = omega (arith, end-line-long 1)
    go true e (some o) =
        let a = open_gate o.rate o.burst o.frame o.reading in
        opened o a (eqb a.code 0) (omega (arith, eqb-true (length line) 31 e))

-- So 240,014 bytes are always enough for the 200,000 that count.
pub printed-most : (text : List ℕ) → length text ≤ 200000 → length (offers_text text) ≤ 240014
unfolding offers_text
printed-most text few = omega (arith, list-most (lines text), lines-within text)

-- So has an area of as many zeros or more, whose size isn't worked out.
pub printed-room : (n : ℕ) (text : List ℕ) → 240014 ≤ n → length text ≤ 200000 → length (offers_text text) ≤ length {A = ℕ} (replicate n 0)
printed-room n text enough few = omega (arith, enough, printed-most text few, length-replicate {A = ℕ} n 0)

-- Before each line: the answers to the lines left fill the area up to where all of them end.
pub record Answering (lines : List Line) (all before part : List ℕ) (left : List Line) (g : Gate) (clock number filled : ℕ) : Type 0 where
  pub counted : number + length left ≤ length lines + 2
  pub sum : filled + length (steps_text number clock g left) ≡ length all
  pub fills : Filling (all ++ drop (length all) before) (steps_text number clock g left) part (length before) filled

pub answering-first : (lines left : List Line) (before : List ℕ) (g : Gate) (clock : ℕ) → left ≡ lines → let all = steps_text 2 clock g lines in
    length all ≤ length before → Answering lines all before before left g clock 2 0
answering-first lines left before g clock same room =
    rw same (record { counted = omega arith; sum = omega arith; fills = filling-first (steps_text 2 clock g lines) before room })

module _ {lines : List Line} {all before part : List ℕ} {left : List Line} {g : Gate} {clock number filled : ℕ} (now : Answering lines all before part left g clock number filled) where
  -- A line that is read has room for its answer, and is followed by the next.
  module _ {s : code_step.Step} {others : List Line} (found : FirstStep left others (Some s)) (reading : ℕ) (is : reading ≡ (clock + s.micros) % turn) (a : GateAnswer)
      (answered : a ≡ offer g s.length.0 reading) where
    splits : steps_text number clock g left ≡ gate_line a ++ steps_text (number + 1) reading a.gate others
    unfolding step_text
    splits =
        found.same number clock g
        ∙ ap (λ (r : ℕ). gate_line (offer g s.length.0 r) ++ steps_text (suc number) r (offer g s.length.0 r).gate others) (sym is)
        ∙ ap (λ (b : GateAnswer). gate_line b ++ steps_text (suc number) reading b.gate others) (sym answered)
        ∙ ap (λ (n : ℕ). gate_line a ++ steps_text n reading a.gate others) (sym (add-one number))

    pub answering-next : (part' : List ℕ) → part' ≡ put_mid filled (length part - filled) part (gate_line a ++ drop gate_line_bytes (take (length part - filled) (drop filled part)))
        → Answering lines all before part' others a.gate reading (number + 1) (filled + gate_line_bytes)
    answering-next part' put =
        let more = steps_text (number + 1) reading a.gate others in
        record {
          counted = omega (arith, now.counted, found.counted);
          sum = omega (arith, now.sum, ap length splits, length-append (gate_line a) more, gate-line-long a);
          fills = filling-put now.fills (gate_line a) more splits gate_line_bytes (sym (gate-line-long a)) part' put;
        }

  pub answer-room : {s : code_step.Step} {others : List Line} → FirstStep left others (Some s) → filled + gate_line_bytes ≤ length part
  answer-room {s} {others} found =
      let reading = (clock + s.micros) % turn in
      let a = offer g s.length.0 reading in
      filling-room now.fills (gate_line a) (steps_text (number + 1) reading a.gate others) (splits found reading refl a refl) gate_line_bytes (sym (gate-line-long a))

  -- One that is malformed has room for what is said of it, and is the last.
  module _ {others : List Line} (found : FirstStep left others None) where
    broken : steps_text number clock g left ≡ end_line number
    unfolding step_text
    broken = found.same number clock g

    breaks : steps_text number clock g left ≡ end_line number ++ []
    breaks = broken ∙ sym (append-nil (end_line number))

    pub end-room : filled + 14 ≤ length part
    end-room = filling-room now.fills (end_line number) [] breaks 14 (sym (end-line-long number))

    pub answering-broken : (part' : List ℕ) → part' ≡ put_mid filled (length part - filled) part (end_line number ++ drop 14 (take (length part - filled) (drop filled part)))
        → (part' ≡ all ++ drop (filled + 14) before) × (filled + 14 ≡ length all) × (length part' ≡ length before)
    answering-broken part' put =
        let done = filling-put now.fills (end_line number) [] breaks 14 (sym (end-line-long number)) part' put in
        let sum : filled + 14 ≡ length all = omega (arith, now.sum, ap length broken, end-line-long number) in
        (filling-last done refl ∙ ap (λ (n : ℕ). all ++ drop n before) (sym sum), sum, done.same_size)

  -- Past the last line nothing is left.
  pub answering-last : left ≡ [] → (part ≡ all ++ drop filled before) × (filled ≡ length all)
  unfolding steps_text
  answering-last end =
      let nothing : steps_text number clock g left ≡ [] = ap (steps_text number clock g) end in
      let sum : filled ≡ length all = omega (arith, now.sum, ap length nothing) in
      (filling-last now.fills nothing ∙ ap (λ (n : ℕ). all ++ drop n before) (sym sum), sum)

-- The answer to an opening, and what follows it.
module _ (o : Opening) (ls : List Line) (a : GateAnswer) (is : a ≡ open_gate o.rate o.burst o.frame o.reading) where
  opened-as : {b : Bool} → eqb a.code 0 ≡ b → opening_text (some o) ls ≡ gate_line a ++ cond b (steps_text 2 o.reading a.gate ls) []
  unfolding opening_text opened_text
  opened-as e =
      ap (λ (x : GateAnswer). gate_line x ++ cond (eqb x.code 0) (steps_text 2 o.reading x.gate ls) []) (sym is)
      ∙ ap (λ (b : Bool). gate_line a ++ cond b (steps_text 2 o.reading a.gate ls) []) e

  pub opened-refused : (a.code ≡ 0 → ⊥) → opening_text (some o) ls ≡ gate_line a
  opened-refused code = opened-as (ne_eqb a.code 0 code) ∙ append-nil (gate_line a)

  pub opened-done : a.code ≡ 0 → opening_text (some o) ls ≡ gate_line a ++ steps_text 2 o.reading a.gate ls
  opened-done code = opened-as (eq-eqb a.code 0 code)

  -- Behind the line there is room for what follows.
  pub opened-followed : a.code ≡ 0 → (size : ℕ) → length (opening_text (some o) ls) ≤ size → gate_line_bytes + length (steps_text 2 o.reading a.gate ls) ≤ size
  opened-followed code size room =
      omega (arith, room, ap length (opened-done code), length-append (gate_line a) (steps_text 2 o.reading a.gate ls), gate-line-long a)

  pub opened-room : gate_line_bytes ≤ length (opening_text (some o) ls)
  opened-room =
      let more = cond (eqb a.code 0) (steps_text 2 o.reading a.gate ls) [] in
      omega (arith, ap length (opened-as refl), length-append (gate_line a) more, gate-line-long a)

-- A line in the first bytes, then a text in the part behind it.
pub line-then : (before area line more : List ℕ) (bytes : ℕ) → length line ≡ gate_line_bytes → area ≡ line ++ drop gate_line_bytes before → bytes ≡ length more
    → gate_line_bytes + bytes ≤ length before
    → put_mid gate_line_bytes (length area - gate_line_bytes) area (more ++ drop bytes (take (length area - gate_line_bytes) (drop gate_line_bytes area)))
    ≡ (line ++ more) ++ drop (gate_line_bytes + bytes) before
line-then before area line more bytes long is size room =
    let same : length area ≡ length before = ap length is ∙ length-append line (drop gate_line_bytes before) ∙ omega (arith, long, length-drop gate_line_bytes before, room) in
    text-put area more gate_line_bytes bytes (omega (arith, same, room))
    ∙ ap (λ (t : List ℕ). take gate_line_bytes t ++ (more ++ drop (gate_line_bytes + bytes) t)) is
    ∙ ap₂ (λ (t u : List ℕ). t ++ (more ++ u)) (take_at line (drop gate_line_bytes before) gate_line_bytes long)
    (ap (λ (n : ℕ). drop (n + bytes) (line ++ drop gate_line_bytes before)) (sym long) ∙ drop-append-add line (drop gate_line_bytes before) bytes ∙ drop-drop bytes gate_line_bytes before)
    ∙ sym (append_assoc line more (drop (gate_line_bytes + bytes) before))

-- Nothing is printed of an empty list.
pub no_text : (text : List ℕ) → lines text ≡ [] → offers_text text ≡ []
unfolding offers_text list_text
no_text text e = ap list_text e

pub unopened : (others : List Line) → opening_text none others ≡ end_line 1
unfolding opening_text
unopened others = refl
