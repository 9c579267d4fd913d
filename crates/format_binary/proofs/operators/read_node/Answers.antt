use Rattle.std.proofs.Common.{◌∙◌, ◌∷◌, ap, refl}
use Rattle.format_binary.proofs.FormNumbers.{nothing_left, one_follows, tag_follows, tag_front, text_end, text_front, texts_end, texts_front, two_follow, unknown_kind, unknown_node}
use Rattle.format_binary.proofs.Refused.{no_err, same_err}
use Rattle.format_binary.proofs.operators.read_node.Goals as goal

pub returns-in_err-read_byte-clause-refused : goal.returns-in_err-read_byte-clause-refused
returns-in_err-read_byte-clause-refused c = no_err c.from_residual.result (nothing_left c.args.input.now.rest.now c.in_err-read_byte.ensures.refused)

pub returns-in_err-read_string-in-0-clause-refused : goal.returns-in_err-read_string-in-0-clause-refused
returns-in_err-read_string-in-0-clause-refused c =
    same_err c.from_residual-in_err-read_string-in-0.result c.in_err-read_string-in-0.field-0.0 c.from_residual-in_err-read_string-in-0.ensures.1
    (λ w b. c.in_err-read_string-in-0.ensures.refused w (text_front c.args.input.now.rest.now c.read_byte.new.self.rest.now 0 (c.in_ok-read_byte.ensures.read ∙ ap (λ b. b ∷ c.read_byte.new.self.rest.now) c.in-0.is) refl b))

pub returns-in_err-read_string-in-1-clause-refused : goal.returns-in_err-read_string-in-1-clause-refused
returns-in_err-read_string-in-1-clause-refused c =
    same_err c.from_residual-in_err-read_string-in-1.result c.in_err-read_string-in-1.field-0.0 c.from_residual-in_err-read_string-in-1.ensures.1
    (λ w b. c.in_err-read_string-in-1.ensures.refused w (text_front c.args.input.now.rest.now c.read_byte.new.self.rest.now 1 (c.in_ok-read_byte.ensures.read ∙ ap (λ b. b ∷ c.read_byte.new.self.rest.now) c.in-1.is) refl b))

pub returns-in_err-read_string-in-3-clause-refused : goal.returns-in_err-read_string-in-3-clause-refused
returns-in_err-read_string-in-3-clause-refused c =
    same_err c.from_residual-in_err-read_string-in-3.result c.in_err-read_string-in-3.field-0.0 c.from_residual-in_err-read_string-in-3.ensures.1
    (λ w b. c.in_err-read_string-in-3.ensures.refused w (text_front c.args.input.now.rest.now c.read_byte.new.self.rest.now 3 (c.in_ok-read_byte.ensures.read ∙ ap (λ b. b ∷ c.read_byte.new.self.rest.now) c.in-3.is) refl b))

pub returns-in_err-read_strings-in-16-clause-refused : goal.returns-in_err-read_strings-in-16-clause-refused
returns-in_err-read_strings-in-16-clause-refused c =
    same_err c.from_residual-in_err-read_strings-in-16.result c.in_err-read_strings-in-16.field-0.0 c.from_residual-in_err-read_strings-in-16.ensures.1
    (λ w b. c.in_err-read_strings-in-16.ensures.refused w (texts_front c.args.input.now.rest.now c.read_byte.new.self.rest.now 16 (c.in_ok-read_byte.ensures.read ∙ ap (λ b. b ∷ c.read_byte.new.self.rest.now) c.in-16.is) refl b))

pub returns-in_err-read_string-in-18-clause-refused : goal.returns-in_err-read_string-in-18-clause-refused
returns-in_err-read_string-in-18-clause-refused c =
    same_err c.from_residual-in_err-read_string-in-18.result c.in_err-read_string-in-18.field-0.0 c.from_residual-in_err-read_string-in-18.ensures.1
    (λ w b. c.in_err-read_string-in-18.ensures.refused w (text_front c.args.input.now.rest.now c.read_byte.new.self.rest.now 18 (c.in_ok-read_byte.ensures.read ∙ ap (λ b. b ∷ c.read_byte.new.self.rest.now) c.in-18.is) refl b))

pub returns-in_err-read_string-in-19-clause-refused : goal.returns-in_err-read_string-in-19-clause-refused
returns-in_err-read_string-in-19-clause-refused c =
    same_err c.from_residual-in_err-read_string-in-19.result c.in_err-read_string-in-19.field-0.0 c.from_residual-in_err-read_string-in-19.ensures.1
    (λ w b. c.in_err-read_string-in-19.ensures.refused w (tag_front c.args.input.now.rest.now c.read_byte.new.self.rest.now 19 (c.in_ok-read_byte.ensures.read ∙ ap (λ b. b ∷ c.read_byte.new.self.rest.now) c.in-19.is) refl b))

pub returns-in_ok-read_string-in-0-clause-follows : goal.returns-in_ok-read_string-in-0-clause-follows
returns-in_ok-read_string-in-0-clause-follows c = text_end c.args.input.now.rest.now c.read_byte.new.self.rest.now 0 (c.in_ok-read_byte.ensures.read ∙ ap (λ b. b ∷ c.read_byte.new.self.rest.now) c.in-0.is) refl c.in_ok-read_string-in-0.field-0 c.read_string.new.self.rest.now c.in_ok-read_string-in-0.ensures.read

pub returns-in_ok-read_string-in-1-clause-follows : goal.returns-in_ok-read_string-in-1-clause-follows
returns-in_ok-read_string-in-1-clause-follows c = text_end c.args.input.now.rest.now c.read_byte.new.self.rest.now 1 (c.in_ok-read_byte.ensures.read ∙ ap (λ b. b ∷ c.read_byte.new.self.rest.now) c.in-1.is) refl c.in_ok-read_string-in-1.field-0 c.read_string-in-1.new.self.rest.now c.in_ok-read_string-in-1.ensures.read

pub returns-in_ok-read_string-in-3-clause-follows : goal.returns-in_ok-read_string-in-3-clause-follows
returns-in_ok-read_string-in-3-clause-follows c = text_end c.args.input.now.rest.now c.read_byte.new.self.rest.now 3 (c.in_ok-read_byte.ensures.read ∙ ap (λ b. b ∷ c.read_byte.new.self.rest.now) c.in-3.is) refl c.in_ok-read_string-in-3.field-0 c.read_string-in-3.new.self.rest.now c.in_ok-read_string-in-3.ensures.read

pub returns-in_ok-read_string-in-18-clause-follows : goal.returns-in_ok-read_string-in-18-clause-follows
returns-in_ok-read_string-in-18-clause-follows c = text_end c.args.input.now.rest.now c.read_byte.new.self.rest.now 18 (c.in_ok-read_byte.ensures.read ∙ ap (λ b. b ∷ c.read_byte.new.self.rest.now) c.in-18.is) refl c.in_ok-read_string-in-18.field-0 c.read_string-in-18.new.self.rest.now c.in_ok-read_string-in-18.ensures.read

pub returns-in_ok-read_string-in-19-clause-follows : goal.returns-in_ok-read_string-in-19-clause-follows
returns-in_ok-read_string-in-19-clause-follows c = tag_follows c.args.input.now.rest.now c.read_byte.new.self.rest.now 19 (c.in_ok-read_byte.ensures.read ∙ ap (λ b. b ∷ c.read_byte.new.self.rest.now) c.in-19.is) refl c.in_ok-read_string-in-19.field-0 c.read_string-in-19.new.self.rest.now c.in_ok-read_string-in-19.ensures.read

pub returns-in_ok-read_strings-in-16-clause-follows : goal.returns-in_ok-read_strings-in-16-clause-follows
returns-in_ok-read_strings-in-16-clause-follows c = texts_end c.args.input.now.rest.now c.read_byte.new.self.rest.now 16 (c.in_ok-read_byte.ensures.read ∙ ap (λ b. b ∷ c.read_byte.new.self.rest.now) c.in-16.is) refl c.read_strings.new.self.rest.now c.in_ok-read_strings-in-16.ensures.ends

pub returns-in-5-clause-follows : goal.returns-in-5-clause-follows
returns-in-5-clause-follows c = one_follows c.args.input.now.rest.now c.read_byte.new.self.rest.now 5 (c.in_ok-read_byte.ensures.read ∙ ap (λ b. b ∷ c.read_byte.new.self.rest.now) c.in-5.is) refl

pub returns-in-6-clause-follows : goal.returns-in-6-clause-follows
returns-in-6-clause-follows c = one_follows c.args.input.now.rest.now c.read_byte.new.self.rest.now 6 (c.in_ok-read_byte.ensures.read ∙ ap (λ b. b ∷ c.read_byte.new.self.rest.now) c.in-6.is) refl

pub returns-in-9-clause-follows : goal.returns-in-9-clause-follows
returns-in-9-clause-follows c = one_follows c.args.input.now.rest.now c.read_byte.new.self.rest.now 9 (c.in_ok-read_byte.ensures.read ∙ ap (λ b. b ∷ c.read_byte.new.self.rest.now) c.in-9.is) refl

pub returns-in-10-clause-follows : goal.returns-in-10-clause-follows
returns-in-10-clause-follows c = one_follows c.args.input.now.rest.now c.read_byte.new.self.rest.now 10 (c.in_ok-read_byte.ensures.read ∙ ap (λ b. b ∷ c.read_byte.new.self.rest.now) c.in-10.is) refl

pub returns-in-11-clause-follows : goal.returns-in-11-clause-follows
returns-in-11-clause-follows c = one_follows c.args.input.now.rest.now c.read_byte.new.self.rest.now 11 (c.in_ok-read_byte.ensures.read ∙ ap (λ b. b ∷ c.read_byte.new.self.rest.now) c.in-11.is) refl

pub returns-in-17-clause-follows : goal.returns-in-17-clause-follows
returns-in-17-clause-follows c = one_follows c.args.input.now.rest.now c.read_byte.new.self.rest.now 17 (c.in_ok-read_byte.ensures.read ∙ ap (λ b. b ∷ c.read_byte.new.self.rest.now) c.in-17.is) refl

pub returns-in-20-clause-follows : goal.returns-in-20-clause-follows
returns-in-20-clause-follows c = one_follows c.args.input.now.rest.now c.read_byte.new.self.rest.now 20 (c.in_ok-read_byte.ensures.read ∙ ap (λ b. b ∷ c.read_byte.new.self.rest.now) c.in-20.is) refl

pub returns-in-7-clause-follows : goal.returns-in-7-clause-follows
returns-in-7-clause-follows c = two_follow c.args.input.now.rest.now c.read_byte.new.self.rest.now 7 (c.in_ok-read_byte.ensures.read ∙ ap (λ b. b ∷ c.read_byte.new.self.rest.now) c.in-7.is) refl

pub returns-in-8-clause-follows : goal.returns-in-8-clause-follows
returns-in-8-clause-follows c = two_follow c.args.input.now.rest.now c.read_byte.new.self.rest.now 8 (c.in_ok-read_byte.ensures.read ∙ ap (λ b. b ∷ c.read_byte.new.self.rest.now) c.in-8.is) refl

pub returns-in_default-clause-refused : goal.returns-in_default-clause-refused
returns-in_default-clause-refused c = λ e. unknown_node c.args.input.now.rest.now c.read_byte.new.self.rest.now c.in_ok-read_byte.field-0 c.in_ok-read_byte.ensures.read (search unknown_kind)
