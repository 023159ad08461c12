use Rattle.rank_threads.proofs.Common.{arith, drop, false≢true, length, refl, subst, sym, ◌-◌}
use Rattle.rank_threads.proofs.ReceiptLaws.{AreMarked, fit, fits_there}
use Rattle.rank_threads.proofs.standing.stand_among.Goals as goal

-- one that doesn't fit beside those behind it stands with none
pub returns-then-not-fits : goal.returns-then-not-fits
returns-then-not-fits c =
    let h = c.loop-left.invariant in (
      λ f. absurd (false≢true f),
      λ all. c.if-not-fits.ensures.1 (fits_there c.args.forgotten c.args.history.now c.args.from c.args.receipts.now c.loop-left.left c.loop-left.named.items c.index-receipts-left.result c.index-receipts-left.is c.loop-left-test.true h.within h.marked all),
    )

-- one that fits stands with them
pub loop-left-preserved : goal.loop-left-preserved
loop-left-preserved c =
    let h = c.loop-left.invariant in
    let w = fit c.args.forgotten c.args.history.now c.args.from c.args.receipts.now c.loop-left.left c.loop-left.named.items c.index-receipts-left.result c.index-receipts-left.is c.loop-left-test.true h.within h.marked h.stand (c.if-not-fits.ensures.0 refl) in
    record {
      within = omega (arith, h.within);
      marked = subst (λ named. AreMarked c.args.forgotten (length c.args.history.now) named (drop (c.loop-left.left - 1) c.args.receipts.now)) (sym c.mark.ensures) w.0;
      stand = w.1;
    }
