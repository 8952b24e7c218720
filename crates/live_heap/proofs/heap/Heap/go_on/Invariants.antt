use Rattle.live_heap.proofs.heap.Heap.go_on.Given as goal

abbrev pub ghost-drive : goal.ghost-drive
ghost-drive g a = a.pass.now
