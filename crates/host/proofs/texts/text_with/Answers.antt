use Rattle.std.proofs.Common.{true, false, replicate, subst}
use Rattle.plan.specs.Plans.{rows_in}
use Rattle.plan.specs.Loading.{LoadRefused}
use Rattle.host.specs.Texts.{RefusalText}
use Rattle.host.proofs.texts.text_with.Goals as goal

pub returns-in-Ok : goal.returns-in-Ok
returns-in-Ok g c =
    let loaded = c.in-Ok.ensures.cases in
    let text = c.plan_text.ensures.cases in
    record {
      cases = (
        false,
        (
          text.0,
          record {
            masks = c.in-Ok.field-0.now;
            records = loaded.records;
            count = loaded.count;
            read = loaded.read;
            rows = rows_in c.load.new.self;
            store = c.load.new.store;
            sound = loaded.sound;
            printed = text.1;
          },
          text.2,
        ),
      );
      short = c.plan_text.ensures.short;
    }

pub returns-in-Err-Sheet : goal.returns-in-Err-Sheet
returns-in-Err-Sheet g c =
    let w = g.W.OrderedWeight in
    let line = c.refusal_text.ensures.cases in
    let refused = subst (LoadRefused w.CODE w.WIDTH w.encoding c.args.sheet.now (replicate 256 c.default-store.result)) c.in-Err-Sheet.field-0-is c.in-Err-Sheet.ensures.cases in
    let text = subst (λ f. RefusalText f line.0) c.in-Err-Sheet.fault-is line.1 in
    record { cases = (true, (line.0, (c.in-Err-Sheet.fault, refused.1, text), line.2)); short = c.refusal_text.ensures.short }
