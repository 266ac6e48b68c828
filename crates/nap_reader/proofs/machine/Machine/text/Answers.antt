use Rattle.nap_reader.proofs.{kept_as, Codes, IsTextOf, List, ap, arith, drop, refl, subst, take, take-append-drop, text_halts, text_taken, ℕ, ◌++◌, ◌∙◌, ◌≡◌}
use Rattle.nap_reader.proofs.machine.Machine.text.Goals as goal
use Rattle.nap_reader.proofs.machine.Machine.text.Goals.{Else-text-lt2}

-- the text and the bytes after it
parts : (bytes text : List ℕ) (n : ℕ) → text ≡ take n bytes → text ++ drop n bytes ≡ bytes
parts bytes text n is = ap (λ (bs : List ℕ). bs ++ drop n bytes) is ∙ take-append-drop n bytes

pub returns-then-text-lt2 : goal.returns-then-text-lt2
returns-then-text-lt2 g c = λ ended.
    subst (λ (bytes : List ℕ). Codes c.args.self.now c.alone.new.self bytes ended c.alone.result) (parts c.args.bytes.now c.text_bytes-text.result.now _ c.text_bytes-text.ensures.bytes) (c.alone.ensures ended _)

-- The text has more than one byte.
is_text : (g : _) (c : Else-text-lt2 g) → IsTextOf c.args.self.now c.args.set c.args.bytes.now c.text_bytes-text.result.now
is_text g c = record {
  rest = _;
  is = parts c.args.bytes.now c.text_bytes-text.result.now _ c.text_bytes-text.ensures.bytes;
  some = omega arith;
  typed = c.text_bytes-text.ensures.typed;
  closed = c.requires.closed;
  are = c.requires.set;
}

pub returns-in-Ok : goal.returns-in-Ok
returns-in-Ok g c = λ ended.
    let put = c.in-Ok.ensures.put in
    text_taken (is_text g (goal.at.returns-in-Ok g c).Else-text-lt2) (record { before = c.requires.closed; closed = c.requires.closed; work_is = c.in-Ok.ensures.work; lexer_is = refl; kept = kept_as refl refl }) put.took put.works
    (record { live = c.requires.live.live; agrees = c.in-Ok.ensures.agree }) g.met.S.Sink.took_more g.met.S.Sink.wants_more

pub returns-in-Err : goal.returns-in-Err
returns-in-Err g c = λ ended. rw c.from.ensures (text_halts (is_text g (goal.at.returns-in-Err g c).Else-text-lt2) c.in-Err.short.fault refl c.in-Err.ensures.put.0 c.in-Err.ensures.put.1)
