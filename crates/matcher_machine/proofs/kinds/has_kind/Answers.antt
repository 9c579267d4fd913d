use Rattle.std.proofs.Common.{inl, inr}
use Rattle.matcher_code.specs.Bytecodes.{lists_in}
use Rattle.matcher_machine.proofs.kinds.has_kind.Goals as goal

pub returns-then-may_run : goal.returns-then-may_run
returns-then-may_run c = λ h.
    let code = lists_in c.args.code.now in
    let both = c.may_run_both.ensures code h in
    rw c.in-Call.is (c.may_run.ensures code c.if-may_run.true, both.0, both.1)

pub returns-then-may_run-2 : goal.returns-then-may_run-2
returns-then-may_run-2 c = λ h.
    let code = lists_in c.args.code.now in
    let both = c.may_run_both-then-may_run-2.ensures code h in
    rw c.in-Sub.is (c.may_run-in-Sub.ensures code c.if-may_run-2.true, both.0, both.1)

pub returns-in-Trivia : goal.returns-in-Trivia
returns-in-Trivia c = λ h. rw c.in-Trivia.is (c.may_run_both-in-Trivia.ensures (lists_in c.args.code.now) h)

pub returns-in-One : goal.returns-in-One
returns-in-One c = λ h.
    let both = c.may_run_both-in-One.ensures (lists_in c.args.code.now) h in
    elim c.in-One.is [
      | inl x ↦ rw x.1 both
      | inr y0 ↦
          elim y0 [
            | inl x ↦ rw x.1 both
            | inr y1 ↦
                elim y1 [
                  | inl x ↦ rw x.1 both
                  | inr y2 ↦
                      elim y2 [
                        | inl x ↦ rw x.1 both
                        | inr y3 ↦
                            elim y3 [
                              | inl x ↦ rw x.2 both
                              | inr y4 ↦
                                  elim y4 [
                                    | inl x ↦ rw x both
                                    | inr y5 ↦
                                        elim y5 [
                                          | inl x ↦ rw x both
                                          | inr y6 ↦
                                              elim y6 [
                                                | inl x ↦ rw x both
                                                | inr y7 ↦
                                                    elim y7 [
                                                      | inl x ↦ rw x both
                                                      | inr y8 ↦
                                                          elim y8 [
                                                            | inl x ↦ rw x both
                                                            | inr y9 ↦
                                                                elim y9 [
                                                                  | inl x ↦ rw x both
                                                                  | inr y10 ↦
                                                                      elim y10 [
                                                                        | inl x ↦ rw x both
                                                                        | inr y11 ↦
                                                                            rw y11.2 both
                                                                      ]
                                                                ]
                                                          ]
                                                    ]
                                              ]
                                        ]
                                  ]
                            ]
                      ]
                ]
          ]
    ]

pub returns-in-All : goal.returns-in-All
returns-in-All c = λ h.
    let one = c.may_run-in-All.ensures (lists_in c.args.code.now) h in
    elim c.in-All.is [
      | inl x ↦ rw x.1 one
      | inr y0 ↦
          elim y0 [
            | inl x ↦ rw x.2 one
            | inr y1 ↦
                elim y1 [
                  | inl x ↦ rw x one
                  | inr y2 ↦
                      elim y2 [
                        | inl x ↦ rw x.1 one
                        | inr y3 ↦
                            elim y3 [
                              | inl x ↦ rw x.1 one
                              | inr y4 ↦
                                  rw y4.1 one
                            ]
                      ]
                ]
          ]
    ]

pub returns-in-Commit : goal.returns-in-Commit
returns-in-Commit c = λ h.
    let one = c.may_run_higher.ensures (lists_in c.args.code.now) h in
    elim c.in-Commit.is [
      | inl x ↦ rw x one
      | inr y0 ↦
          elim y0 [
            | inl x ↦ rw x one
            | inr y1 ↦
                rw y1 one
          ]
    ]

pub returns-then-may_run_deeper : goal.returns-then-may_run_deeper
returns-then-may_run_deeper c = λ h.
    let code = lists_in c.args.code.now in
    let deep = c.may_run_deeper.ensures code c.if-may_run_deeper.true in
    let one = c.may_run-then-may_run_deeper.ensures code h in
    elim c.in-Try.is [
      | inl x ↦ rw x (deep, one)
      | inr y0 ↦
          rw y0 (deep, one)
    ]
