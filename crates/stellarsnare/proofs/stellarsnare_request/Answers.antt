-- stellarsnare::stellarsnare_request meets its contract.
use Rattle.units.specs.Ticks.{tick}
use Rattle.machine.specs.Answers.{Answers}
use Rattle.stellarsnare.specs.Face.{machine_of}
use Rattle.stellarsnare.proofs.Telling.{request_told, request_denied}
use Rattle.stellarsnare.proofs.stellarsnare_request.Goals as goal

pub returns-in_default : goal.returns-in_default
returns-in_default c =
    let told : Answers c.args.words.now (machine_of c.args.machine.now) c.args.mode (tick c.args.clock) c.request-answer.result.reply c.request-answer.result.machine
    = rw (c.of-3.ensures, c.of-2.ensures, c.of.ensures) at c.request-answer.ensures in
    request_denied c.args.machine.now told c.in_default.ensures

pub returns : goal.returns
returns c =
    let told : Answers c.args.words.now (machine_of c.args.machine.now) c.args.mode (tick c.args.clock) c.request-answer.result.reply c.request-answer.result.machine
    = rw (c.of-3.ensures, c.of-2.ensures, c.of.ensures) at c.request-answer.ensures in
    request_told c.args.machine.now told c.in-Some.ensures c.three.ensures c.ticks.ensures
