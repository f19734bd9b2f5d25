-- Two outcomes that meet a promise agree: each promise is one equation, so its parts are those of the right side.
-- Assumes nothing.
use mathlib.Core.Path.{◌≡◌, sym, ap, ◌∙◌}
use Prim.Native.Nat.{ℕ}
use Rattle.layouts.specs.Answer.{Answer}
use Rattle.layouts.specs.Agree.{AgreeWith}
use Rattle.firmware.specs.Outcome.{One, Told, Two, Placed, Slot, Bytes, Counted}
use Rattle.firmware.specs.Agreed.{AgreeOne, AgreeTwo, AgreeThree, AgreeCounted, Agreed}

told : (b : ℕ) (a : Answer) → AgreeOne (λ r x. Told b r x a)
told b a r s x y p q =
    let e : ◌≡◌ {A = One} (record { refusal = r; value = x }) (record { refusal = s; value = y }) = p ∙ sym q in
    (ap (λ (o : One). o.refusal) e, ap (λ (o : One). o.value) e)

placed : (f n : ℕ) (a : Answer) → AgreeTwo (λ r x v. Placed f n r x v a)
placed f n a r s x y v w p q =
    let e : ◌≡◌ {A = Two} (record { refusal = r; first = x; many = v }) (record { refusal = s; first = y; many = w }) = p ∙ sym q in
    (ap (λ (o : Two). o.refusal) e, ap (λ (o : Two). o.first) e, ap (λ (o : Two). o.many) e)

-- the same of whatever the right side is
slotted : (z : Slot) → AgreeThree (λ r x v k. ◌≡◌ {A = Slot} (record { refusal = r; flex = x; adkd = v; object = k }) z)
slotted z r s x y v w k l p q =
    let e : ◌≡◌ {A = Slot} (record { refusal = r; flex = x; adkd = v; object = k }) (record { refusal = s; flex = y; adkd = w; object = l }) =
    p ∙ sym q in
    (ap (λ (o : Slot). o.refusal) e, ap (λ (o : Slot). o.flex) e, ap (λ (o : Slot). o.adkd) e, ap (λ (o : Slot). o.object) e)

copied : (z : Bytes) → AgreeWith (λ r x. ◌≡◌ {A = Bytes} (record { refusal = r; bytes = x }) z)
copied z r s x y p q =
    let e : ◌≡◌ {A = Bytes} (record { refusal = r; bytes = x }) (record { refusal = s; bytes = y }) = p ∙ sym q in
    (ap (λ (o : Bytes). o.refusal) e, ap (λ (o : Bytes). o.bytes) e)

counted : (z : Counted) → AgreeCounted (λ r x v. ◌≡◌ {A = Counted} (record { refusal = r; value = x; bytes = v }) z)
counted z r s x y v w p q =
    let e : ◌≡◌ {A = Counted} (record { refusal = r; value = x; bytes = v }) (record { refusal = s; value = y; bytes = w }) = p ∙ sym q in
    (ap (λ (o : Counted). o.refusal) e, ap (λ (o : Counted). o.value) e, ap (λ (o : Counted). o.bytes) e)

pub agreed : Agreed
agreed =
    record {
      osnma_read_bits = λ m start width b. told b _;
      osnma_nma_status = λ h b. told b _;
      osnma_chain_id = λ h b. told b _;
      osnma_chain_and_pubkey_status = λ h b. told b _;
      osnma_dsm_id = λ h b. told b _;
      osnma_dsm_block_id = λ h b. told b _;
      osnma_dsm_type = λ h b. told b _;
      osnma_kroot_number_of_blocks = λ m b. told b _;
      osnma_kroot_public_key_id = λ m b. told b _;
      osnma_kroot_chain_id = λ m b. told b _;
      osnma_kroot_hash_function = λ m b. told b _;
      osnma_kroot_mac_function = λ m b. told b _;
      osnma_kroot_key_size_bytes = λ m b. told b _;
      osnma_kroot_tag_size = λ m b. told b _;
      osnma_kroot_mac_lookup_table = λ m b. told b _;
      osnma_kroot_wn = λ m b. told b _;
      osnma_kroot_towh = λ m b. told b _;
      osnma_kroot_alpha = λ m b. told b _;
      osnma_kroot_ecdsa_function = λ m b. told b _;
      osnma_kroot_kroot = λ m f n. placed f n _;
      osnma_kroot_digital_signature = λ m f n. placed f n _;
      osnma_kroot_padding = λ m f n. placed f n _;
      osnma_pkr_number_of_blocks = λ m b. told b _;
      osnma_pkr_message_id = λ m b. told b _;
      osnma_pkr_new_public_key_type = λ m b. told b _;
      osnma_pkr_new_public_key_id = λ m b. told b _;
      osnma_pkr_key_size = λ m b. told b _;
      osnma_pkr_new_public_key = λ m f n. placed f n _;
      osnma_pkr_padding = λ m f n. placed f n _;
      osnma_pkr_merkle_tree_leaf = λ m f n. placed f n _;
      osnma_pkr_intermediate_tree_node = λ m node f n. placed f n _;
      osnma_mack_num_tags = λ K T b. told b _;
      osnma_mack_tag0 = λ m K T b. told b _;
      osnma_mack_macseq = λ m K T b. told b _;
      osnma_mack_cop = λ m K T b. told b _;
      osnma_mack_tag = λ m K T n b. told b _;
      osnma_mack_tag_info = λ m K T n b. told b _;
      osnma_mack_prnd = λ m K T n b. told b _;
      osnma_mack_adkd = λ m K T n b. told b _;
      osnma_mack_tag_cop = λ m K T n b. told b _;
      osnma_mack_key = λ m K T out. copied _;
      osnma_get_maclt_entry = λ i message tag a b c. slotted _;
      osnma_get_flx_indices = λ i message b held. counted _;
      osnma_maclt_nt = λ i b. told b _;
    }
