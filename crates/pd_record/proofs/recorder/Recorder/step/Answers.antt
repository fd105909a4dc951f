-- The run goes on, one event further.
use Rattle.std.proofs.Common.{◌≡◌, ◌<◌, Ok, subst, sym, arith}
use Rattle.pd_run.specs.Step.{step, Steps}
use Rattle.pd_run.specs.declared.stepper.StepEnd.TheVariants.{Go}
use Rattle.pd_run.proofs.Steps.{tells}
use Rattle.pd_record.specs.Recorder.{RecorderView}
use Rattle.pd_record.specs.Inner.{Sound}
use Rattle.pd_record.proofs.recorder.Recorder.step.Goals as goal

pub returns-clause-sound : goal.returns-clause-sound
returns-clause-sound c =
    let sound = subst Sound (sym c.self.view_is) c.requires.sound in
    let few : c.self.inside.count < 4096 = subst (λ (t : RecorderView). t.count < 4096) (sym c.self.view_is) c.requires.few in
    let told : step c.self.inside.run c.args.event.now ≡ Ok c.step.new.state =
    tells c.self.inside.run c.step.new.state c.args.event.now Go sound.run.live (subst (λ end. Steps c.self.inside.run c.args.event.now end c.step.new.state) c.in-Go.is c.in_ok-step.ensures.ends) in
    record {
      run = c.law_clock_base_and_queue_bounded_per_event.ensures.step c.self.inside.count c.self.inside.run c.step.new.state c.args.event.now sound.run told;
      few = omega (arith, few);
      unmet = sound.unmet;
    }
