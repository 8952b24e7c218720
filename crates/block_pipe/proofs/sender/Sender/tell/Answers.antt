use Rattle.std.proofs.Common.{refl}
use Rattle.block_pipe.proofs.sender.Sender.tell.Goals as goal

pub returns-clause-of : goal.returns-clause-of
returns-clause-of c =
    let r = c.requires.of in
    record {
      of = r.of;
      has = r.has;
      set = r.set;
      senders = r.senders;
      shelves = r.shelves;
      from = r.from;
      until = r.until;
      count = r.count;
      turn = r.turn;
      within = r.within;
      next = (refl, record { sender = r.has; seq = r.count; few = c.requires.few; shelf = c.requires.shelf });
    }
